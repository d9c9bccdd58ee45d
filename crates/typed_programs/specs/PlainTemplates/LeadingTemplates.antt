-- Templates of plain functions lead on.
use Rattle.std.specs.Prelude.{◌≡◌, ◌≤◌, ℕ, ◌-◌, ◌^◌, Bool, true, false, List}
use Rattle.c_layout.specs.CheckedTrees.{statement_trees}
use Rattle.c_layout.specs.CheckedUnits.{FunctionView}
use Rattle.c_layout.specs.StructViews.{StructView}
use Rattle.lower_templates.specs.Worklist.Pieces.{TemplateView}
use Rattle.lower_functions.specs.Functions.Functions.{setting_of, IsTemplate}
use Rattle.lower_template_theorems.specs.PendingLabels.Marks.{IsLabelled}
use Rattle.typed_programs.specs.PlainUnits.PlainStatements.{are_plain_statements}
use Rattle.typed_programs.specs.PlainUnits.PlainUnits.{no_label}
use Rattle.typed_programs.specs.PlainWorklists.LeadingPieces.{LeadsOn}
use Rattle.typed_programs.specs.PlainWorklists.SwitchLabels.{AllLabelsStand}

-- in the template of a function whose statements are plain, each of whose labels stands once and the labels of whose switches
-- stand in their bodies, each edge leads to a label that stands later
abbrev pub TemplatesLeadOn : Type 0
TemplatesLeadOn = (calls : ℕ → Bool) (structs : List StructView) (pointer int_bytes : ℕ) (f : FunctionView) (is_entry : Bool) (t : TemplateView) → IsTemplate structs pointer int_bytes f is_entry t → IsLabelled f → t.labels ≤ 2 ^ 32 - 1
    → AllLabelsStand (setting_of structs pointer int_bytes f is_entry) (statement_trees f.body) 0 → are_plain_statements calls no_label false (statement_trees f.body) ≡ true → LeadsOn calls t

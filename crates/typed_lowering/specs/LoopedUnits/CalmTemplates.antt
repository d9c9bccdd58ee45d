-- Templates whose calls are plain, and in which each label to which an edge leads is marked, before or behind.
use Rattle.std.specs.Prelude.{◌≡◌, ◌≤◌, ◌-◌, ◌^◌, ℕ, Bool, true}
use Rattle.c_layout.specs.CheckedTrees.{statement_trees}
use Rattle.c_layout.specs.CheckedUnits.{FunctionView, UnitView}
use Rattle.lower_functions.specs.Functions.Functions.{IsTemplate}
use Rattle.typed_programs.specs.PlainWorklists.LeadingPieces.{AreOfObjects, Marked, LeadOn, NoLabel}
use Rattle.lower_templates.specs.Worklist.Pieces.{TemplateView}
use Rattle.lower_preconditions.specs.Units.RegularUnits.{is_regular_function}
use Rattle.typed_lowering.specs.LoopedUnits.LoopedStatements.{are_looped_statements}

-- a label that the template marks
abbrev pub IsMarkedIn : TemplateView → ℕ → Type 0
IsMarkedIn t = Marked t.pieces NoLabel

-- it calls functions that pass a test, and names no allocation
pub record IsCalm (calls : ℕ → Bool) (t : TemplateView) : Type 0 where
  pub pieces : LeadOn calls (IsMarkedIn t) t.pieces
  pub names : AreOfObjects t.names

-- ---- the law

abbrev pub LoopedTemplatesAreCalm : Type 0
LoopedTemplatesAreCalm = (u : UnitView) (calls : ℕ → Bool) (f : FunctionView) (is_entry : Bool) (t : TemplateView) → IsTemplate u.structs u.model.pointer u.model.int f is_entry t → t.labels ≤ 2 ^ 32 - 1
    → is_regular_function u f ≡ true → are_looped_statements calls (statement_trees f.body) ≡ true → IsCalm calls t

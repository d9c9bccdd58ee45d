-- Each label is marked at most once.
use Rattle.std.specs.Prelude.{◌≤◌, ℕ, ◌-◌, ◌^◌, Bool, List}
use Rattle.c_layout.specs.CheckedUnits.{FunctionView}
use Rattle.c_layout.specs.StructViews.{StructView}
use Rattle.lower_templates.specs.Worklist.Pieces.{TemplateView}
use Rattle.lower_functions.specs.Functions.Functions.{IsTemplate}
use Rattle.lower_template_theorems.specs.PendingLabels.Marks.{below, all_marked, IsLabelled}

-- where a function has each of its labels at most once, and its template no more labels than numbers of 32 bits, the
-- template marks each label at most once
abbrev pub LabelsAreMarkedOnce : Type 0
LabelsAreMarkedOnce = (structs : List StructView) (pointer int_bytes : ℕ) (f : FunctionView) (is_entry : Bool) (t : TemplateView) → IsTemplate structs pointer int_bytes f is_entry t → IsLabelled f → t.labels ≤ 2 ^ 32 - 1 → (l : ℕ) → all_marked l t.pieces ≤ 1

-- so it does, and only where it has a label of that number
abbrev pub LabelsAreMarkedBelow : Type 0
LabelsAreMarkedBelow = (structs : List StructView) (pointer int_bytes : ℕ) (f : FunctionView) (is_entry : Bool) (t : TemplateView) → IsTemplate structs pointer int_bytes f is_entry t → IsLabelled f → t.labels ≤ 2 ^ 32 - 1 → (l : ℕ) → all_marked l t.pieces ≤ below l t.labels

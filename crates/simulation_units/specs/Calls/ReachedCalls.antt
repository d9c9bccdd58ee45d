-- Calls of the functions that the entry reaches.
use Rattle.std.specs.Prelude.{◌≡◌, ℕ, List, Option}
use Rattle.c_layout.specs.CheckedUnits.{FunctionView, UnitView}
use Rattle.lower_templates.specs.Worklist.Pieces.{TemplateView}
use Rattle.lower_objects.specs.declared.counts.function_counts.FunctionCounts.{FunctionCounts}
use Rattle.lower_tables.specs.Counts.Preparations.{IsTemplateOf, Calls, Reaches, IsPrepared}

-- nothing that the entry reaches calls the entry: a function is counted behind those that it calls
abbrev pub EntriesAreNotCalled : Type 0
EntriesAreNotCalled = (u : UnitView) (templates : List (Option TemplateView)) (table : List (Option FunctionCounts)) → IsPrepared u templates table → (n m : ℕ) (f : FunctionView) (t : TemplateView) → Reaches u n → IsTemplateOf u n f t → Calls t.pieces m → m ≡ u.entry → ⊥

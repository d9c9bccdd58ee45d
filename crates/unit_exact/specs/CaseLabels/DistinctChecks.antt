-- Of each checked unit the case labels of a switch have distinct values.
use Rattle.std.specs.Prelude.{◌≡◌, ℕ, true, List, Ok}
use Rattle.c_layout.specs.CheckedUnits.{UnitView}
use Rattle.c_layout.specs.DeclarationTrees.{ExternalTree}
use Rattle.c_layout.specs.declared.data_model.Model.{Model}
use Rattle.c_types.specs.Units.UnitChecks.{check}
use Rattle.unit_exact.specs.CaseLabels.DistinctCases.{is_distinct_unit}

abbrev pub CheckedCasesAreDistinct : Type 0
CheckedCasesAreDistinct = (m : Model) (name : List ℕ) (es : List ExternalTree) (u : UnitView) → check m name es ≡ Ok u → is_distinct_unit u ≡ true

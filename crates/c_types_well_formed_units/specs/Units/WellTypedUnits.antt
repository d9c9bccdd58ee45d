-- The law of units: what typing accepts is marked.
use Rattle.std.specs.Prelude.{◌≡◌, ℕ, true, List, Ok}
use Rattle.c_layout.specs.Models.{is_model}
use Rattle.c_layout.specs.CheckedUnits.{UnitView}
use Rattle.c_layout.specs.DeclarationTrees.{ExternalTree}
use Rattle.c_layout.specs.declared.data_model.Model.{Model}
use Rattle.c_types.specs.Units.UnitChecks.{check}
use Rattle.lower_preconditions.specs.Units.RegularUnits.{is_regular_unit}
use Rattle.source_preservation.specs.UnitChecks.LookedUnits.{is_well_typed}
use Rattle.source_preservation.specs.UnitChecks.SmallUnits.{is_small_unit}
use Rattle.c_types_well_formed.specs.WellFormed.ProperStatements.{AreProperExternals}

abbrev pub ChecksAreWellTyped : Type 0
ChecksAreWellTyped = (m : Model) (name : List ℕ) (es : List ExternalTree) (u : UnitView) → is_model m ≡ true → AreProperExternals m es → check m name es ≡ Ok u → is_regular_unit u ≡ true → is_small_unit u ≡ true → is_well_typed u ≡ true

-- The law of sizes: memory has room for the objects of each checked unit.
use Rattle.std.specs.Prelude.{◌≡◌, ℕ, true, List, Ok}
use Rattle.c_layout.specs.Models.{is_model}
use Rattle.c_layout.specs.CheckedUnits.{UnitView}
use Rattle.c_layout.specs.DeclarationTrees.{ExternalTree}
use Rattle.c_layout.specs.declared.data_model.Model.{Model}
use Rattle.c_types.specs.Units.UnitChecks.{check}
use Rattle.source_preservation.specs.UnitChecks.SmallUnits.{is_small_unit}
use Rattle.c_types_well_formed.specs.WellFormed.ProperStatements.{AreProperExternals}

abbrev pub ChecksAreSmall : Type 0
ChecksAreSmall = (m : Model) (name : List ℕ) (es : List ExternalTree) (u : UnitView) → is_model m ≡ true → AreProperExternals m es → check m name es ≡ Ok u → is_small_unit u ≡ true

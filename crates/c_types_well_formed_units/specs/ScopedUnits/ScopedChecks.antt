-- Each checked unit passes the look at scopes.
use Rattle.std.specs.Prelude.{◌≡◌, ℕ, true, List, Ok}
use Rattle.c_layout.specs.CheckedUnits.{UnitView}
use Rattle.c_layout.specs.DeclarationTrees.{ExternalTree}
use Rattle.c_layout.specs.declared.data_model.Model.{Model}
use Rattle.c_types.specs.Units.UnitChecks.{check}
use Rattle.source_preservation.specs.UnitChecks.LookedScopes.{is_scoped}
use Rattle.c_types_well_formed_units.specs.Scoped.BlockDeclarations.{UnitInBlocks}

abbrev pub ChecksAreScoped : Type 0
ChecksAreScoped = (m : Model) (name : List ℕ) (es : List ExternalTree) (u : UnitView) → UnitInBlocks es → check m name es ≡ Ok u → is_scoped u ≡ true

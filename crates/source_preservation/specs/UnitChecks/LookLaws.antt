-- What the looks at a unit say.
use Rattle.std.specs.Prelude.{◌≡◌, true}
use Rattle.c_layout.specs.CheckedUnits.{UnitView}
use Rattle.source_items.specs.Returns.StandingJumps.{UnitJumpsStand}
use Rattle.source_items.specs.Liveness.ScopedStatements.{ScopedUnit}
use Rattle.source_preservation.specs.WellTyped.WellTypedStatements.{WellTypedUnit}
use Rattle.source_preservation.specs.UnitChecks.LookedUnits.{is_well_typed}
use Rattle.source_preservation.specs.UnitChecks.LookedScopes.{is_scoped}

-- a unit that passes the look is marked
abbrev pub LooksMark : Type 0
LooksMark = (u : UnitView) → is_well_typed u ≡ true → WellTypedUnit u

-- and scoped
abbrev pub LooksScope : Type 0
LooksScope = (u : UnitView) → is_scoped u ≡ true → ScopedUnit u

-- and the jumps of a unit that passes the first look have their loops and switches
abbrev pub LooksStand : Type 0
LooksStand = (u : UnitView) → is_well_typed u ≡ true → UnitJumpsStand u

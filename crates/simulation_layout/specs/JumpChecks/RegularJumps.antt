-- Where the jumps of a unit that was looked at stand.
use Rattle.std.specs.Prelude.{◌≡◌, true, false}
use Rattle.c_layout.specs.CheckedTrees.{statement_trees}
use Rattle.c_layout.specs.CheckedUnits.{FunctionView, UnitView}
use Rattle.lower_preconditions.specs.Units.RegularUnits.{is_regular_function}
use Rattle.source_items.specs.Returns.StandingJumps.{AllJumpsStand}

-- the jumps of a regular function have their loops and switches
abbrev pub RegularJumpsStand : Type 0
RegularJumpsStand = (u : UnitView) (f : FunctionView) → is_regular_function u f ≡ true → AllJumpsStand false false (statement_trees f.body)

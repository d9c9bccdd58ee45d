-- Objects are named where they live.
use Rattle.std.specs.Prelude.{◌≡◌, ℕ, ℤ, List}
use Rattle.c_layout.specs.CheckedUnits.{UnitView}
use Rattle.memory_model.specs.Effects.Worlds.{Violation}
use Rattle.semantics.specs.SourceMachine.SourceStates.{State}
use Rattle.semantics.specs.SourceMachine.SourceRuns.{running, Run}
use Rattle.source_items.specs.Returns.StandingJumps.{UnitJumpsStand}
use Rattle.source_items.specs.Liveness.ScopedStatements.{ScopedUnit}
use Rattle.source_items.specs.Liveness.Livings.{IsLiving}

-- in each run of a unit whose objects are named in their scopes, and whose jumps have their loops and switches, each function
-- names just the objects that live where it stands
abbrev pub ObjectsLiveWhereNamed : Type 0
ObjectsLiveWhereNamed = (u : UnitView) → UnitJumpsStand u → ScopedUnit u → (draws : List ℤ) (n : ℕ) (s : State) (found : List Violation) (steps : ℕ) → Run u draws n ≡ running s found steps → IsLiving u s

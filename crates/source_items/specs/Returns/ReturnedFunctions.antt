-- Functions of the source that return.
use Rattle.std.specs.Prelude.{◌≡◌, ℕ, ℤ, false, List, [], None}
use Rattle.c_layout.specs.CheckedUnits.{UnitView}
use Rattle.memory_model.specs.Effects.Worlds.{Violation}
use Rattle.semantics.specs.SourceMachine.SourceStates.{State}
use Rattle.semantics.specs.SourceMachine.SourceSteps.{is_entry}
use Rattle.semantics.specs.SourceMachine.SourceRuns.{running, Run}
use Rattle.source_items.specs.Returns.StandingJumps.{UnitJumpsStand}

-- a function that was called and has nothing left to do names no object any more
abbrev pub HasLeftAll : State → Type 0
HasLeftAll s = s.control ≡ [] → is_entry s.frames ≡ false → (slot : ℕ) → s.names slot ≡ None

-- so it is in each run of a unit whose jumps have their loops and switches
abbrev pub CalledFunctionsLeaveAll : Type 0
CalledFunctionsLeaveAll = (u : UnitView) → UnitJumpsStand u → (draws : List ℤ) (n : ℕ) (s : State) (found : List Violation) (steps : ℕ) → Run u draws n ≡ running s found steps → HasLeftAll s

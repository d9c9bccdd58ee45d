-- Runs of the source whose values have their kinds.
use Rattle.std.specs.Prelude.{◌≡◌, ℕ, ℤ, List}
use Rattle.c_layout.specs.CheckedUnits.{UnitView}
use Rattle.memory_model.specs.Effects.Worlds.{Violation}
use Rattle.semantics.specs.SourceMachine.SourceStates.{State}
use Rattle.semantics.specs.SourceMachine.SourceSteps.{turn}
use Rattle.semantics.specs.SourceMachine.SourceRuns.{running, Run}
use Rattle.source_items.specs.Operations.GoingReplies.{IfGoes}
use Rattle.source_items.specs.Returns.StandingJumps.{UnitJumpsStand}
use Rattle.source_items.specs.StackKinds.KindedStatements.{KindedUnit}
use Rattle.source_items.specs.StackKinds.KindedStates.{HasKinds}

-- each turn that goes on keeps that values have their kinds
abbrev pub TurnsKeepKinds : Type 0
TurnsKeepKinds = (u : UnitView) → KindedUnit u → UnitJumpsStand u → (s : State) → HasKinds u s → IfGoes (HasKinds u) (turn u s).reply

-- so it is in each run of a unit whose terms have operands of their kinds
abbrev pub RunsKeepKinds : Type 0
RunsKeepKinds = (u : UnitView) → KindedUnit u → UnitJumpsStand u → (draws : List ℤ) (n : ℕ) (s : State) (found : List Violation) (steps : ℕ) → Run u draws n ≡ running s found steps → HasKinds u s

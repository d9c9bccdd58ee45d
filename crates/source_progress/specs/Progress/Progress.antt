-- Runs of the source are stuck at most at the steps that are open.
use Rattle.std.specs.Prelude.{◌≡◌, ℕ, ℤ, true, false, List, [], ◌∷◌}
use Rattle.c_layout.specs.Types.{Ty, Int}
use Rattle.c_layout.specs.CheckedUnits.{LocalView, UnitView}
use Rattle.memory_model.specs.Effects.Worlds.{World, Stuck, stops, Violation}
use Rattle.memory_model.specs.Effects.UnitStarts.{entry_parameters}
use Rattle.semantics.specs.SourceMachine.SourceStates.{State}
use Rattle.semantics.specs.SourceMachine.SourceSteps.{turn}
use Rattle.semantics.specs.SourceMachine.SourceRuns.{running, stopped, Run}
use Rattle.source_items.specs.Returns.StandingJumps.{UnitJumpsStand}
use Rattle.source_items.specs.Operations.GoingReplies.{NotStuck}
use Rattle.source_items.specs.StackKinds.KindedStatements.{KindedUnit}
use Rattle.source_items.specs.StackKinds.KindedStates.{HasKinds}
use Rattle.source_items.specs.Liveness.ScopedStatements.{ScopedUnit}
use Rattle.source_items.specs.Liveness.Livings.{IsLiving}
use Rattle.source_progress.specs.Progress.OpenSteps.{stands_open}

-- a turn from where values have their kinds and objects are named where they live is stuck at most at an open step
abbrev pub TurnsHaveSteps : Type 0
TurnsHaveSteps = (u : UnitView) (s : State) → HasKinds u s → IsLiving u s → stands_open s ≡ false → NotStuck (turn u s).reply

abbrev pub IsInteger : Ty → Type 0
IsInteger (Int kind) = Unit {0}
IsInteger t = ⊥

-- the entry's parameters are integers, which the outside gives
abbrev pub AreIntegers : List LocalView → Type 0
AreIntegers [] = Unit {0}
AreIntegers (l ∷ ls) = IsInteger l.ctype × AreIntegers ls

-- a unit whose jumps have their loops and switches, whose terms have operands of their kinds, whose objects are named in their
-- scopes, and whose entry takes integers
pub record IsTypedAndScoped (u : UnitView) : Type 0 where
  pub jumps : UnitJumpsStand u
  pub kinded : KindedUnit u
  pub scoped : ScopedUnit u
  pub entered : AreIntegers (entry_parameters u)

-- a run of such a unit that goes on is stuck in the next turn at most at an open step
abbrev pub RunsHaveSteps : Type 0
RunsHaveSteps = (u : UnitView) → IsTypedAndScoped u → (draws : List ℤ) (n : ℕ) (s : State) (found : List Violation) (steps : ℕ) → Run u draws n ≡ running s found steps → stands_open s ≡ false → NotStuck (turn u s).reply

-- where a run stands before an open step
pub record StandsOpen (u : UnitView) (draws : List ℤ) : Type 0 where
  pub turns : ℕ
  pub state : State
  pub found : List Violation
  pub steps : ℕ
  pub is : Run u draws turns ≡ running state found steps
  pub open_there : stands_open state ≡ true
  pub stuck : World
  pub there : (turn u state).reply ≡ stops Stuck stuck

-- a run of such a unit that is stuck stood before an open step, and was stuck there
abbrev pub RunsAreStuckAtOpenSteps : Type 0
RunsAreStuckAtOpenSteps = (u : UnitView) → IsTypedAndScoped u → (draws : List ℤ) (n : ℕ) (w : World) (found : List Violation) (steps : ℕ) → Run u draws n ≡ stopped Stuck w found steps → StandsOpen u draws

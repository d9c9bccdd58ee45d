-- Turns of the source that are no step, no call and no return.
use Rattle.std.specs.Prelude.{◌≡◌, ℕ, suc, true, false, List}
use Rattle.c_layout.specs.CheckedUnits.{UnitView}
use Rattle.memory_model.specs.Effects.Worlds.{World, Why, Violation}
use Rattle.semantics.specs.SourceMachine.SourceStates.{State}
use Rattle.semantics.specs.SourceMachine.SourceRuns.{SourceRun, running, stopped, next}
use Rattle.simulation_terms.specs.SmallSteps.Alike.{moves, moves_next}

-- behind so many of them a run has stopped, or a step, a call or a return comes next
pub data Comes (u : UnitView) : ℕ → SourceRun → Type 0 where
  has_stopped : (why : Why) (w : World) (found : List Violation) (steps : ℕ) → Comes u 0 (stopped why w found steps)
  there : (s : State) (found : List Violation) (steps : ℕ) → moves s.control ≡ true → Comes u 0 (running s found steps)
  quiet : (n : ℕ) (r : SourceRun) → moves_next r ≡ false → Comes u n (next u r) → Comes u (suc n) r

-- such turns end
abbrev pub QuietTurnsEnd : Type 0
QuietTurnsEnd = (u : UnitView) (r : SourceRun) → (n : ℕ) × Comes u n r

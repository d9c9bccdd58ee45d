-- In each run functions name just what lives.
use Rattle.std.proofs.Common.{ℕ, zero, suc, List, Option, subst}
use Rattle.cc_base.specs.declared.diagnostics.Place.{Place}
use Rattle.c_layout.specs.CheckedUnits.{UnitView}
use Rattle.memory_model.specs.Effects.Worlds.{Reply, goes, stops, Violation}
use Rattle.memory_model.specs.Effects.UnitStarts.{start_world}
use Rattle.semantics.specs.SourceMachine.SourceStates.{State}
use Rattle.semantics.specs.SourceMachine.SourceSteps.{turn}
use Rattle.semantics.specs.SourceMachine.SourceRuns.{SourceRun, running, stopped, run_by, next, begun_by, source_begin, turns_from}
use Rattle.source_items.specs.Returns.StandingJumps.{UnitJumpsStand}
use Rattle.source_items.specs.Liveness.ScopedStatements.{ScopedUnit}
use Rattle.source_items.specs.Liveness.Livings.{IsLiving}
use Rattle.source_preservation.specs.Liveness.NamedObjects.{ObjectsLiveWhereNamed}
use Rattle.source_items.specs.Operations.GoingReplies.{IfGoes}
use Rattle.source_preservation.proofs.liveness.Starts.{begins_living}
use Rattle.source_preservation.proofs.liveness.Turns.{turn_lives}

-- it holds of the state in which a run is, if it goes on
abbrev IfRuns : (State → Type 0) → SourceRun → Type 0
IfRuns P (running s found steps) = P s
IfRuns P (stopped why w found steps) = Unit {0}

module _ (u : UnitView) (stand : UnitJumpsStand u) (scoped : ScopedUnit u) where
  runs_by : (found : List Violation) (steps : ℕ) (at : Option Place) (reply : Reply State) → IfGoes (IsLiving u) reply → IfRuns (IsLiving u) (run_by found steps at reply)
  runs_by found steps at (goes s w) all = all
  runs_by found steps at (stops why w) all = tt

  next_runs : (r : SourceRun) → IfRuns (IsLiving u) r → IfRuns (IsLiving u) (next u r)
  next_runs (running s found steps) all = runs_by found steps (turn u s).counted (turn u s).reply (turn_lives u stand scoped s all)
  next_runs (stopped why w found steps) all = tt

  begun : (reply : Reply (Unit {0})) → IfRuns (IsLiving u) (begun_by u reply)
  begun (goes x w) = begins_living u stand scoped w
  begun (stops why w) = tt

  runs : (r : SourceRun) (n : ℕ) → IfRuns (IsLiving u) r → IfRuns (IsLiving u) (turns_from u r n)
  runs r zero all = all
  runs r (suc n) all = next_runs (turns_from u r n) (runs r n all)

pub all_live : ObjectsLiveWhereNamed
all_live u stand scoped draws n s found steps is = subst (IfRuns (IsLiving u)) is (runs u stand scoped (source_begin u draws) n (begun u stand scoped (start_world u draws)))

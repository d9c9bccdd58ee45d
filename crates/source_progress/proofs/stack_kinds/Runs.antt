-- In each run values have the kinds that what is left to do takes.
use Rattle.std.proofs.Common.{◌≡◌, ℕ, zero, suc, List, [], Option, Some, None, refl, sym, subst}
use Rattle.cc_base.specs.declared.diagnostics.Place.{Place}
use Rattle.c_layout.specs.CheckedUnits.{UnitView, FunctionView}
use Rattle.memory_model.specs.Effects.Worlds.{World, Reply, goes, stops, Violation}
use Rattle.memory_model.specs.Effects.UnitStarts.{start_world}
use Rattle.semantics.specs.SourceMachine.SourceStates.{State, function_at}
use Rattle.semantics.specs.SourceMachine.SourceSteps.{turn}
use Rattle.semantics.specs.SourceMachine.SourceRuns.{SourceRun, running, stopped, body_of, run_by, next, begun_by, first_state, source_begin, turns_from}
use Rattle.source_items.specs.Operations.GoingReplies.{IfGoes}
use Rattle.source_items.specs.Operations.OperationLaws.{OperationsKeepKinds}
use Rattle.source_items.specs.Returns.StandingJumps.{UnitJumpsStand}
use Rattle.source_items.specs.StackKinds.KindedStatements.{KindedUnit}
use Rattle.source_items.specs.StackKinds.KindedItems.{Does}
use Rattle.source_items.specs.StackKinds.KindedStates.{HasKinds}
use Rattle.source_progress.specs.StackKinds.KeptKinds.{TurnsKeepKinds, RunsKeepKinds}
use Rattle.source_items.proofs.stack_kinds.Labels.{body_does}
use Rattle.source_progress.proofs.stack_kinds.Turns.{turn_keeps}

-- it holds of the state in which a run is, if it goes on
abbrev IfRuns : (State → Type 0) → SourceRun → Type 0
IfRuns P (running s found steps) = P s
IfRuns P (stopped why w found steps) = Unit {0}

module _ (kept : OperationsKeepKinds) (u : UnitView) (kinded : KindedUnit u) (stand : UnitJumpsStand u) where
  runs_by : (found : List Violation) (steps : ℕ) (at : Option Place) (reply : Reply State) → IfGoes (HasKinds u) reply → IfRuns (HasKinds u) (run_by found steps at reply)
  runs_by found steps at (goes s w) has = has
  runs_by found steps at (stops why w) has = tt

  next_runs : (r : SourceRun) → IfRuns (HasKinds u) r → IfRuns (HasKinds u) (next u r)
  next_runs (running s found steps) has = runs_by found steps (turn u s).counted (turn u s).reply (turn_keeps u kept kinded stand s has)
  next_runs (stopped why w found steps) has = tt

  first_has : (w : World) → HasKinds u (first_state u w)
  first_has w =
      let f : FunctionView = kinded.entry.0 in
      let is : function_at u u.entry ≡ Some f = kinded.entry.1 in
      record {
        kinds = [];
        left = [];
        below = [];
        goes = record { function = f; is = is; leaves = refl; does = subst (λ o. Does u f None (body_of o) [] []) (sym is) (body_does u f None (kinded.functions u.entry f is) (stand u.entry f is)) };
        wait = refl;
        are = tt;
      }

  begun : (reply : Reply (Unit {0})) → IfRuns (HasKinds u) (begun_by u reply)
  begun (goes x w) = first_has w
  begun (stops why w) = tt

  runs : (r : SourceRun) (n : ℕ) → IfRuns (HasKinds u) r → IfRuns (HasKinds u) (turns_from u r n)
  runs r zero has = has
  runs r (suc n) has = next_runs (turns_from u r n) (runs r n has)

pub turns_keep : OperationsKeepKinds → TurnsKeepKinds
turns_keep kept u kinded stand s has = turn_keeps u kept kinded stand s has

pub runs_keep : OperationsKeepKinds → RunsKeepKinds
runs_keep kept u kinded stand draws n s found steps is = subst (IfRuns (HasKinds u)) is (runs kept u kinded stand (source_begin u draws) n (begun kept u kinded stand (start_world u draws)))

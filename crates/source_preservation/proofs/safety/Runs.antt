-- In each run values have their marks, and no turn is stuck.
use Rattle.std.proofs.Common.{◌≡◌, ℕ, zero, suc, ℤ, List, [], Option, Some, None, refl, sym, subst}
use Rattle.cc_base.specs.declared.diagnostics.Place.{Place}
use Rattle.c_layout.specs.CheckedUnits.{FunctionView, UnitView}
use Rattle.memory_model.specs.Effects.Worlds.{World, Reply, goes, stops, Violation}
use Rattle.memory_model.specs.Effects.UnitStarts.{start_world}
use Rattle.semantics.specs.SourceMachine.SourceStates.{State, function_at}
use Rattle.semantics.specs.SourceMachine.SourceSteps.{turn}
use Rattle.semantics.specs.SourceMachine.SourceRuns.{SourceRun, running, stopped, body_of, run_by, next, begun_by, first_state, Run}
use Rattle.source_items.specs.Operations.GoingReplies.{IsDefined}
use Rattle.source_preservation.specs.Liveness.NamedObjects.{ObjectsLiveWhereNamed}
use Rattle.source_preservation.specs.ValueTyping.MarkLaws.{Comes}
use Rattle.source_preservation.specs.WellTyped.WellTypedItems.{Does}
use Rattle.source_preservation.specs.WellTyped.WellTypedStates.{none, Runs}
use Rattle.source_preservation.proofs.items.Labels.{body_does}
use Rattle.source_preservation.specs.InitialMemory.StartedWorlds.{IsStarted}
use Rattle.source_preservation.proofs.initial_memory.Started.{start_comes}
use Rattle.source_preservation.specs.SmallSteps.KeptMarks.{RunsOn, TurnsKeepMarks}
use Rattle.source_preservation.specs.Safety.DefinedRuns.{IsWellTypedAndScoped, RunsKeepMarks, RunsAreNeverStuck}

-- a run goes on where values have their marks, or has stopped at a step that is defined
abbrev Stays : UnitView → SourceRun → Type 0
Stays u (running s found steps) = Runs u s
Stays u (stopped why w found steps) = IsDefined why

module _ (u : UnitView) (is : IsWellTypedAndScoped u) where
  -- ---- the start

  first_runs : (w : World) → IsStarted u w → Runs u (first_state u w)
  first_runs w started =
      let f : FunctionView = is.well_typed.entry.0 in
      let there : function_at u u.entry ≡ Some f = is.well_typed.entry.1 in
      record {
        marks = [];
        left = [];
        own = [];
        rest = [];
        values = refl;
        are = tt;
        goes = record {
          function = f;
          is = there;
          room = started.parameters f there;
          leaves = refl;
          does = subst (λ o. Does u f None (body_of o) [] []) (sym there) (body_does u f None (is.well_typed.functions u.entry f there) (is.jumps u.entry f there));
        };
        wait = none;
        proper = started.proper;
        statics = started.statics;
      }

  begun_stays : (reply : Reply (Unit {0})) → Comes (λ x w. IsStarted u w) reply → Stays u (begun_by u reply)
  begun_stays (goes x w) started = first_runs w started
  begun_stays (stops why w) defined = defined

  -- ---- turns

  run_stays : (found : List Violation) (steps : ℕ) (at : Option Place) (reply : Reply State) → Comes (RunsOn u) reply → Stays u (run_by found steps at reply)
  run_stays found steps at (goes s w) runs = runs
  run_stays found steps at (stops why w) defined = defined

  module _ (turns : TurnsKeepMarks) (lives : ObjectsLiveWhereNamed) (draws : List ℤ) where
    next_stays : (n : ℕ) (r : SourceRun) → Run u draws n ≡ r → Stays u r → Stays u (next u r)
    next_stays n (running s found steps) same runs = run_stays found steps (turn u s).counted (turn u s).reply (turns u is.well_typed is.jumps s runs (lives u is.jumps is.scoped draws n s found steps same))
    next_stays n (stopped why w found steps) same defined = defined

    stays : (n : ℕ) → Stays u (Run u draws n)
    stays zero = begun_stays (start_world u draws) (start_comes u draws is.well_typed)
    stays (suc n) = next_stays n (Run u draws n) refl (stays n)

-- ---- the laws

module _ (turns : TurnsKeepMarks) (lives : ObjectsLiveWhereNamed) where
  pub runs_keep : RunsKeepMarks
  runs_keep u is draws n s found steps same = subst (Stays u) same (stays u is turns lives draws n)

  pub never_stuck : RunsAreNeverStuck
  never_stuck u is draws n w found steps same = subst (Stays u) same (stays u is turns lives draws n)

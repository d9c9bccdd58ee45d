-- The run of a plain unit that ends is that of its program, which is never stuck and violates the same.
use Rattle.std.proofs.Common.{◌≡◌, ℕ, Option, Some, None, List, [], subst, sym, refl, ap, ◌∙◌}
use Rattle.std.specs.Prelude.{◌↔◌, ℤ}
use Rattle.std.specs.List.{Contains}
use Rattle.cc_base.specs.declared.diagnostics.Diag.{Diag}
use Rattle.cc_base.specs.declared.diagnostics.Place.{Place}
use Rattle.cc_base.specs.declared.diagnostics.Rule.{Rule}
use Rattle.cc_base.specs.declared.limit_table.Limits.{Limits}
use Rattle.c_layout.specs.CheckedUnits.{UnitView}
use Rattle.cfg.specs.declared.programs.Flow.{Flow}
use Rattle.lower_templates.specs.Views.ProgramViews.{FlowView, flow_view}
use Rattle.semantics.specs.CfgMachine.FlowStates as flow
use Rattle.semantics.specs.CfgMachine.FlowStates.{FlowRun, running, stopped}
use Rattle.semantics.specs.CfgMachine.FlowSteps.{flow_steps}
use Rattle.semantics.specs.CfgMachine.FlowStarts.{flow_begin}
use Rattle.memory_model.specs.Effects.Worlds.{World, Why, Stuck, Violation}
use Rattle.semantics.specs.SourceMachine.SourceRuns as source
use Rattle.semantics.specs.SourceMachine.SourceRuns.{Run}
use Rattle.simulation_units.specs.Units.UnitRuns.{IsProgramOf, Agree}
use Rattle.simulation_units.specs.CheckedUnits.LookedRuns.{PassesLooks, LookedUnitsAreNeverStuck, LookedRunsAreProgramRuns}
use Rattle.analysis_determined.specs.Analyses.{IsAnalysis}
use Rattle.run_exact.specs.Runs.SingleRuns.{IsNeverStuckAlone, IsSingleProgram, IsViolatedAlone}
use Rattle.run_exact.proofs.runs.SingleRuns.{run_of}
use Rattle.unit_exact.specs.Switches.UnitSwitches.{UnitSwitchesAreApart}
use Rattle.unit_exact.proofs.analyses.SingleAnalyses.{finds_checked_run}
use Rattle.simulation_units.specs.Termination.EndedRuns.{HasStopped, UnitsWithoutLoopsEnd}
use Rattle.unit_exact.specs.Units.SingleUnits.{RunViolates, FindsJustUnitRuns}
use Rattle.unit_exact.proofs.units.EndedRuns.{one_cause, all_found}

same_cause : (a b : Why) → Some a ≡ Some b → a ≡ b
same_cause a b e = cc

module _ (laws : LookedRunsAreProgramRuns) (never : LookedUnitsAreNeverStuck) (u : UnitView) (limits : Limits) (program : Flow) (o : IsProgramOf u limits program) (looks : PassesLooks u) (turns : ℕ) (end : HasStopped (Run u [] turns)) where
  abbrev f : FlowView
  f = flow_view program

  abbrev begin : FlowRun
  begin = flow_begin u f []

  count : ℕ
  count = (laws u limits program o looks [] turns).0

  ended : source.why_of (Run u [] turns) ≡ Some end.why
  ended = ap source.why_of end.is

  agree : Agree (Run u [] turns) (flow_steps f count begin)
  unfolding count
  agree = (laws u limits program o looks [] turns).1

  defined : end.why ≡ Stuck → ⊥
  defined e = never u looks [] turns end.world end.found end.steps (end.is ∙ ap (λ z. source.stopped z end.world end.found end.steps) e)

  -- the run of the program has stopped there, for the same cause
  record ProgramHasStopped (r : FlowRun) : Type 0 where
    world : World
    found : List Violation
    is : r ≡ stopped end.why world found

  stopped_by : (r : FlowRun) → flow.why_of r ≡ Some end.why → ProgramHasStopped r
  stopped_by (running s found) e = absurd (no_cause end.why e)
    where
      no_cause : (w : Why) → None ≡ Some w → ⊥
      no_cause w k = cc
  stopped_by (stopped why w found) e = record { world = w; found = found; is = ap (λ z. stopped z w found) (same_cause why end.why e) }

  has_stopped : ProgramHasStopped (flow_steps f count begin)
  has_stopped = stopped_by (flow_steps f count begin) (sym agree.why ∙ ended)

  never_stuck : IsNeverStuckAlone program u
  never_stuck n w found e = defined (one_cause f begin count n end.why Stuck has_stopped.world w has_stopped.found found has_stopped.is e)

  to_source : (n : ℕ) (v : Violation) → Contains (flow.found_in (flow_steps f n begin)) v → Contains (source.found_in (Run u [] turns)) v
  to_source n v h = subst (λ z. Contains z v) (sym agree.found) (all_found f begin n count end.why has_stopped.world has_stopped.found v has_stopped.is h)

-- what the unit's run violates within some turns is violated by that of the program
from_source : LookedRunsAreProgramRuns → (u : UnitView) (limits : Limits) (program : Flow) → IsProgramOf u limits program → PassesLooks u → (turns : ℕ) (place : Place) (rule : Rule) → Contains (source.found_in (Run u [] turns)) (record { at = place; rule = rule }) → IsViolatedAlone program u place rule
from_source laws u limits program o looks turns place rule h =
    let followed = laws u limits program o looks [] turns in
    record { count = followed.0; there = subst (λ z. Contains z (record { at = place; rule = rule })) (followed.1.found) h }

-- what is found just where the run of the program violates it is found just where that of the unit does, which ends
pub by_ended_run : LookedRunsAreProgramRuns → LookedUnitsAreNeverStuck → (u : UnitView) (limits : Limits) (program : Flow) → IsProgramOf u limits program → PassesLooks u → (turns : ℕ) → HasStopped (Run u [] turns) → (found : List Diag) (d : Diag)
    → (IsNeverStuckAlone program u → Contains found d ↔ IsViolatedAlone program u d.place d.rule) → Contains found d ↔ RunViolates u (record { at = d.place; rule = d.rule })
by_ended_run laws never u limits program o looks turns end found d told =
    let both = told (never_stuck laws never u limits program o looks turns end) in
    let v : Violation = record { at = d.place; rule = d.rule } in (
      λ there. let h = both.0 there in record { turns = turns; there = to_source laws never u limits program o looks turns end h.count v h.there },
      λ h. both.1 (from_source laws u limits program o looks h.turns d.place d.rule h.there),
    )

-- as it does where there are no loops
pub by_unit_run : LookedRunsAreProgramRuns → LookedUnitsAreNeverStuck → UnitsWithoutLoopsEnd → (u : UnitView) (limits : Limits) (program : Flow) → IsProgramOf u limits program → PassesLooks u → IsSingleProgram program u → (found : List Diag) (d : Diag)
    → (IsNeverStuckAlone program u → Contains found d ↔ IsViolatedAlone program u d.place d.rule) → Contains found d ↔ RunViolates u (record { at = d.place; rule = d.rule })
by_unit_run laws never ends u limits program o looks single found d told =
    let stop = ends u limits program o single.headless [] in
    by_ended_run laws never u limits program o looks stop.0 stop.1 found d told

pub finds_unit_run : LookedRunsAreProgramRuns → LookedUnitsAreNeverStuck → UnitSwitchesAreApart → UnitsWithoutLoopsEnd → (program : Flow) (list : List ℤ) (found : List Diag) → IsAnalysis program list found → FindsJustUnitRuns program found
finds_unit_run laws never apart ends program list found a u limits is o looks single d =
    by_unit_run laws never ends u limits program o looks single found d (λ unstuck. finds_checked_run program list found a u is (apart u limits program o) unstuck (run_of single) d)

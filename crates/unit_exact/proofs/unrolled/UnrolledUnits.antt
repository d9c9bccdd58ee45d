-- An analysis of a plain unit's program with turns unrolled finds just what the run of the unit violates.
use Rattle.std.proofs.Common.{◌≡◌, sym, subst}
use Rattle.std.specs.Prelude.{◌↔◌, ℕ, ℤ, true, List}
use Rattle.std.specs.List.{Contains}
use Rattle.cc_base.specs.declared.diagnostics.Diag.{Diag}
use Rattle.cc_base.specs.declared.limit_table.Limits.{Limits}
use Rattle.c_layout.specs.CheckedUnits.{UnitView}
use Rattle.cfg.specs.WellFormed.{is_well_formed}
use Rattle.cfg.specs.declared.programs.Flow.{Flow}
use Rattle.lower_templates.specs.Views.ProgramViews.{flow_view}
use Rattle.memory_model.specs.Effects.Worlds.{Violation}
use Rattle.loop_unrolling.specs.Turns.{split}
use Rattle.simulation_units.specs.Termination.EndedRuns.{UnitsWithoutLoopsEnd}
use Rattle.simulation_units.specs.CheckedUnits.LookedRuns.{LookedUnitsAreNeverStuck, LookedRunsAreProgramRuns}
use Rattle.entry_sound.proofs.checked.CheckedStarts.{unit_starts}
use Rattle.run_exact.proofs.CheckedUnits.{analysed_structs, same_structs}
use Rattle.run_exact.proofs.UnrolledSound.{starts_same}
use Rattle.run_exact.proofs.runs.SingleRuns.{run_of}
use Rattle.unit_exact.specs.Switches.UnitSwitches.{UnitSwitchesAreApart}
use Rattle.unit_exact.proofs.analyses.SingleAnalyses.{finds_run}
use Rattle.analysis_determined.specs.Analyses.{IsAnalysis}
use Rattle.entry_sound.specs.Checked.CheckedStarts.{IsUnitOf}
use Rattle.run_exact.specs.Runs.SingleRuns.{SwitchesAreApart, IsNeverStuckAlone, IsSingleRun, IsViolatedAlone}
use Rattle.unit_exact.proofs.units.SingleUnits.{by_ended_run, by_unit_run}
use Rattle.unit_exact.specs.Unrolled.UnrolledLoops.{LoopedUnitsAreExact}
use Rattle.unit_exact.specs.Unrolled.UnrolledUnits.{UnrolledUnitsAreExact}
use Rattle.unit_exact.proofs.unrolled.SingleCopies.{apart_too, same_found, never_stuck_too, single_too, single_run}

module _ (turns : ℕ) (limits : Limits) (flow turned : Flow) (good : is_well_formed limits flow ≡ true) (h : flow_view turned ≡ split turns (flow_view flow)) (list : List ℤ) (found : List Diag) (a : IsAnalysis turned list found) (u : UnitView) (is : IsUnitOf u flow) where
  -- the run of the program violates what that of the unrolled one does
  alone : (d : Diag) → Contains found d ↔ IsViolatedAlone turned u d.place d.rule → Contains found d ↔ IsViolatedAlone flow u d.place d.rule
  alone d told =
      let v : Violation = record { at = d.place; rule = d.rule } in (
        λ there. let x = told.0 there in record { count = x.count; there = subst (λ vs. Contains vs v) (sym (same_found turns limits flow turned good h u x.count)) x.there },
        λ x. told.1 (record { count = x.count; there = subst (λ vs. Contains vs v) (same_found turns limits flow turned good h u x.count) x.there }),
      )

  unrolled_run : SwitchesAreApart flow → IsNeverStuckAlone flow u → IsSingleRun turned u → (d : Diag) → Contains found d ↔ IsViolatedAlone flow u d.place d.rule
  unrolled_run apart unstuck single d =
      let starts = starts_same turns limits flow turned good h u (unit_starts u flow (same_structs turns flow turned h (analysed_structs turned list found a)) is) in
      alone d (finds_run turned list found a u starts (apart_too turns limits flow turned good h apart) (never_stuck_too turns limits flow turned good h u unstuck) single d)

pub unrolled_units_told : LookedRunsAreProgramRuns → LookedUnitsAreNeverStuck → UnitSwitchesAreApart → UnitsWithoutLoopsEnd → UnrolledUnitsAreExact
unrolled_units_told laws never apart ends turns flow turned list found h a u limits is o looks single d =
    by_unit_run laws never ends u limits flow o looks single found d (λ unstuck. unrolled_run turns limits flow turned o.good h list found a u is (apart u limits flow o) unstuck (run_of (single_too turns limits flow turned o.good h u single)) d)

pub looped_units_told : LookedRunsAreProgramRuns → LookedUnitsAreNeverStuck → UnitSwitchesAreApart → LoopedUnitsAreExact
looped_units_told laws never apart turns flow turned list found h a u limits is o looks single end stopped d =
    by_ended_run laws never u limits flow o looks end stopped found d (λ unstuck. unrolled_run turns limits flow turned o.good h list found a u is (apart u limits flow o) unstuck (single_run turns limits flow turned o.good h u single) d)

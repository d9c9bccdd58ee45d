-- What an analysis of a plain unit finds where turns of its loops are unrolled: there are none, so it finds nothing else.
use Rattle.std.specs.Prelude.{◌≡◌, ℕ, ℤ, true, List}
use Rattle.cc_base.specs.declared.diagnostics.Diag.{Diag}
use Rattle.cc_base.specs.declared.limit_table.Limits.{Limits}
use Rattle.c_layout.specs.CheckedUnits.{UnitView}
use Rattle.cfg.specs.WellFormed.{is_well_formed}
use Rattle.cfg.specs.declared.programs.Flow.{Flow}
use Rattle.lower_templates.specs.Views.ProgramViews.{flow_view}
use Rattle.loop_unrolling.specs.Turns.{split}
use Rattle.analysis_determined.specs.Analyses.{IsAnalysis}
use Rattle.run_exact.specs.Runs.SingleRuns.{IsSingleProgram}
use Rattle.unit_exact.specs.Units.SingleUnits.{FindsJustUnitRuns}

-- just what the run of the unit violates, by an analysis of the program with turns unrolled
abbrev pub UnrolledUnitsAreExact : Type 0
UnrolledUnitsAreExact = (turns : ℕ) (flow turned : Flow) (list : List ℤ) (found : List Diag) → flow_view turned ≡ split turns (flow_view flow) → IsAnalysis turned list found → FindsJustUnitRuns flow found

-- a program whose one run passes each block once at most stays one: no edge of a copy goes back, and the run in the
-- copies accesses what the run of the program does
abbrev pub UnrolledProgramsAreExact : Type 0
UnrolledProgramsAreExact = (turns : ℕ) (limits : Limits) (flow turned : Flow) (u : UnitView) → is_well_formed limits flow ≡ true → flow_view turned ≡ split turns (flow_view flow) → IsSingleProgram flow u → IsSingleProgram turned u

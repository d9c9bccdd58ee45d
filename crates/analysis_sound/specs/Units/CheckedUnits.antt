-- When what an analysis finds holds each pair that a run of a checked unit violates.
use Rattle.std.specs.Prelude.{◌≡◌, ℕ, ℤ, true, List}
use Rattle.cc_base.specs.declared.diagnostics.Diag.{Diag}
use Rattle.cc_base.specs.declared.limit_table.Limits.{Limits}
use Rattle.c_layout.specs.CheckedUnits.{UnitView}
use Rattle.cfg.specs.WellFormed.{is_well_formed}
use Rattle.cfg.specs.declared.programs.Flow.{Flow}
use Rattle.lower_templates.specs.Views.ProgramViews.{flow_view}
use Rattle.analysis_determined.specs.Analyses.{IsAnalysis}
use Rattle.loop_unrolling.specs.Turns.{split}
use Rattle.entry_sound.specs.Checked.CheckedStarts.{IsUnitOf}
use Rattle.analysis_sound.specs.Units.SoundUnits.{FindsPairsOf}

-- of each checked unit whose program it is
abbrev pub FindsPairsOfChecked : Flow → List Diag → Type 0
FindsPairsOfChecked flow found = (u : UnitView) → IsUnitOf u flow → FindsPairsOf flow found u

-- by an analysis of the program with turns unrolled
abbrev pub FindsUnrolledPairsOfChecked : Type 0
FindsUnrolledPairsOfChecked = (turns : ℕ) (limits : Limits) (flow turned : Flow) (list : List ℤ) (found : List Diag) → is_well_formed limits flow ≡ true → flow_view turned ≡ split turns (flow_view flow)
    → IsAnalysis turned list found → FindsPairsOfChecked flow found

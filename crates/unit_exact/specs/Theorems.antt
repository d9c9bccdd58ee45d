-- What the theorems on plain units say.
use Rattle.std.specs.Prelude.{ℤ, List}
use Rattle.cc_base.specs.declared.diagnostics.Diag.{Diag}
use Rattle.cfg.specs.declared.programs.Flow.{Flow}
use Rattle.analysis_determined.specs.Analyses.{IsAnalysis}
use Rattle.unit_exact.specs.Analyses.SingleAnalyses.{FindsJustRuns, FindsJustRunsOfChecked}
use Rattle.unit_exact.specs.Units.SingleUnits.{FindsJustUnitRuns}
pub use Rattle.unit_exact.specs.CaseEdges.ApartSwitches.{TemplatesSwitchApart}
pub use Rattle.unit_exact.specs.CaseEdges.ApartEdges.{ProgramsSwitchApart}
pub use Rattle.unit_exact.specs.CaseLabels.DistinctChecks.{CheckedCasesAreDistinct}
pub use Rattle.unit_exact.specs.Switches.UnitSwitches.{UnitSwitchesAreApart}
pub use Rattle.unit_exact.specs.Unrolled.UnrolledUnits.{UnrolledProgramsAreExact, UnrolledUnitsAreExact}
pub use Rattle.unit_exact.specs.Unrolled.UnrolledLoops.{LoopedUnitsAreExact}

abbrev pub AnalysesFindJustTheRun : Type 0
AnalysesFindJustTheRun = (flow : Flow) (list : List ℤ) (found : List Diag) → IsAnalysis flow list found → FindsJustRuns flow found

abbrev pub CheckedUnitsFindJustTheirRun : Type 0
CheckedUnitsFindJustTheirRun = (flow : Flow) (list : List ℤ) (found : List Diag) → IsAnalysis flow list found → FindsJustRunsOfChecked flow found

abbrev pub PlainUnitsAreExact : Type 0
PlainUnitsAreExact = (flow : Flow) (list : List ℤ) (found : List Diag) → IsAnalysis flow list found → FindsJustUnitRuns flow found

-- What the theorems on analyses of one program say.
use Rattle.std.specs.Prelude.{ℤ, List, true, Option, ◌≡◌, ℕ, length, ◌<◌, ◌^◌, ◌*◌, Contains}
use Rattle.cc_base.specs.declared.diagnostics.Diag.{Diag}
use Rattle.cfg.specs.declared.programs.Flow.{Flow}
use Rattle.analysis.specs.Analyses.{IsAnalysis, row_lattice, machine_of, admitted_pairs}
use Rattle.analysis_determined.specs.LeastMaps.LeastAnalyses.{IsLeastAnalysis, IsLeastMap, AdmitsExactly, AreAlike}
use Rattle.interval_domain.specs.declared.intervals.intervals.Interval.{Interval}
use Rattle.value_domain.specs.declared.values.row_cells.Cell.{Cell}
use Rattle.transfer_system.specs.System.RegularPrograms.{is_regular}
use Rattle.cc_base.specs.declared.limit_table.Limits.{Limits}
use Rattle.cfg.specs.WellFormed.{is_well_formed}
use Rattle.analysis.specs.StepBounds.{most_edges}
use Rattle.analysis_determined.specs.LeastMaps.CountedSteps.{visits}
use Rattle.cc_base.specs.InductiveMap.{IsInductive}
use Rattle.lower_templates.specs.Views.ProgramViews.{flow_view, FlowView}
use Rattle.transfer_system.specs.System.SystemChecks.{is_system}
use Rattle.loop_unrolling.specs.Turns.{split}
use Rattle.analysis_determined.specs.UnrolledDiagnostics.CopiedMaps.{copied_map}
use Rattle.analysis_determined.specs.UnrolledRuns.SameRuns.{IsLinked, RunsAreSame}
pub use Rattle.analysis_determined.specs.AnalysisViews.SameViews.{OneSystem, OneAdmission, OneAnalysis}
pub use Rattle.analysis_determined.specs.LeastMaps.ExactAnalyses.{AnalysesAreExact}
pub use Rattle.analysis_determined.specs.ProgramViews.OneList.{OneList, OneThresholds, OneListOfThresholds}
pub use Rattle.analysis_determined.specs.SyntacticPairs.SameViews.{SamePlaces}

abbrev pub AnalysesAreLeast : Type 0
AnalysesAreLeast = (flow : Flow) (list : List ℤ) (found : List Diag) (a : IsAnalysis flow list found) → IsLeastAnalysis flow list found a.rows

abbrev pub LeastMapsAreExact : Type 0
LeastMapsAreExact = (flow : Flow) (list : List ℤ) → is_regular flow list ≡ true → (rows : List (Option (List (Cell Interval)))) → IsLeastMap flow list rows → AdmitsExactly flow list rows

abbrev pub MapsOfTwoSolversAgree : Type 0
MapsOfTwoSolversAgree = (flow : Flow) (list : List ℤ) (rows other : List (Option (List (Cell Interval)))) → IsLeastMap flow list rows → IsLeastMap flow list other → AreAlike flow rows other

abbrev pub AnswersOfTwoSolversAgree : Type 0
AnswersOfTwoSolversAgree = (flow : Flow) (list : List ℤ) (found other : List Diag) → IsAnalysis flow list found → IsAnalysis flow list other → found ≡ other

abbrev pub StepsAreCounted : Type 0
StepsAreCounted = (limits : Limits) (flow : Flow) (numbers : ℕ) → is_well_formed limits flow ≡ true → limits.pool < 2 ^ 64 → most_edges flow numbers ≡ length flow.edges.items * visits flow numbers

abbrev pub CopiedMapsAreInductive : Type 0
CopiedMapsAreInductive = (turns : ℕ) (flow turned : Flow) (list : List ℤ) → is_system flow ≡ true → flow_view turned ≡ split turns (flow_view flow) → (rows : List (Option (List (Cell Interval)))) → IsInductive row_lattice (machine_of flow list) rows → IsInductive row_lattice (machine_of turned list) (copied_map turns rows)

abbrev pub CopiedMapsAdmitNoMore : Type 0
CopiedMapsAdmitNoMore = (turns : ℕ) (flow turned : Flow) (list : List ℤ) → flow_view turned ≡ split turns (flow_view flow) → (rows : List (Option (List (Cell Interval)))) → IsInductive row_lattice (machine_of flow list) rows → (d : Diag) → Contains (admitted_pairs turned (copied_map turns rows)) d → Contains (admitted_pairs flow rows) d

abbrev pub UnrolledPairsAreNamed : Type 0
UnrolledPairsAreNamed = (turns : ℕ) (flow turned : Flow) (list : List ℤ) → is_system flow ≡ true → flow_view turned ≡ split turns (flow_view flow) → (found pairs : List Diag) → IsAnalysis flow list found → IsAnalysis turned list pairs → (d : Diag) → Contains pairs d → Contains found d

abbrev pub UnrolledRunsAreTheSame : Type 0
UnrolledRunsAreTheSame = (turns : ℕ) (f : FlowView) → IsLinked f → RunsAreSame turns f

abbrev pub WellFormedProgramsAreLinked : Type 0
WellFormedProgramsAreLinked = (limits : Limits) (flow : Flow) → is_well_formed limits flow ≡ true → IsLinked (flow_view flow)

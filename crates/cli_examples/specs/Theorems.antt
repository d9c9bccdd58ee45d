-- What the worked examples of the program say.
use Rattle.cfg.specs.declared.programs.Flow.{Flow}
use Rattle.cli_examples.specs.Analyses.WorkedAnalyses.{Map, IsWorkedProgram}
use Rattle.cli_examples.specs.Reports.WorkedReports.{IsToldAlone}
use Rattle.entry_sound.specs.Checked.CheckedStarts.{IsUnitOf}
use Rattle.cli_examples.specs.Units.WorkedTrees.{checked_unit}
pub use Rattle.cli_examples.specs.Analyses.WorkedAnalyses.{NoLongerMap}
pub use Rattle.cli_examples.specs.Outcomes.OutcomeKinds.{OutcomeByStatus, OneOutcome}
pub use Rattle.cli_examples.specs.Outcomes.FileChoices.{OneModel, OneExpansion, OneRefusal, RefusedOrExpanded, OneBaseline, OneFreshList, OneListOfDraws}
pub use Rattle.cli_examples.specs.Outcomes.WorkedAnswers.{IsNamedModel, IsExpandedFromHeld}
pub use Rattle.cli_examples.specs.Outcomes.OneLine.{OneLine, TwoLines, FoundIsTold, NothingIsTold}
pub use Rattle.cli_examples.specs.Reports.WorkedRuns.{DividesByZero}
pub use Rattle.cli_examples.specs.Units.WorkedUnits.{IsExpandedTo, IsParsedTo, IsCheckedTo}

abbrev pub OneDivisionIsFound : Type 0
OneDivisionIsFound = Flow → (flow : Flow) × (larger : Map) × IsWorkedProgram flow larger

abbrev pub OneLineIsTold : Type 0
OneLineIsTold = Flow → IsToldAlone

abbrev pub PremisesOfSoundnessAreMet : Type 0
PremisesOfSoundnessAreMet = Flow → (flow : Flow) × IsUnitOf checked_unit flow

-- What the theorems on what the program answers say.
pub use Rattle.cli_theorems.specs.Certificates.SameUnits.{SameFilesGiveOneUnit}
pub use Rattle.cli_theorems.specs.Certificates.ProvedTexts.{NeverRefused, NeverAnsweredSo, ShowsRuns}
pub use Rattle.cli_theorems.specs.Reports.OneReports.{OneJudgement, OneReport, OneSummary, OneVerdict, OneLoadVerdict}
pub use Rattle.cli_theorems.specs.Units.Accepted.{OneTree, OneCheckedUnit, OneProgram, RefusedForTurns, AcceptedNotRefused, JudgedNotRefused}
pub use Rattle.cli_theorems.specs.Units.GrammarRefusals.{RefusedExactly, SyntaxExactly, RefusedHasNoTree}
pub use Rattle.cli_theorems.specs.Units.Told.{AcceptedIsReported, AcceptedIsAnswered}
pub use Rattle.cli_theorems.specs.Units.ToldLoad.{AcceptedIsSummed}

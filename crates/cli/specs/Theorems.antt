-- What the theorems on the program say.
pub use Rattle.cli.specs.Command.DefinedRuns.{TypedUnitsPassLooks, RunsAreDefined}
pub use Rattle.cli.specs.Command.FoundRuns.{JudgedRunsAreFound, ReportsHoldRuns}
pub use Rattle.cli.specs.Command.PlainRuns.{JudgedPairsAreViolated, ReportsHoldJustRuns}
pub use Rattle.cli.specs.Command.ReplayedRuns.{ReplaysAreTold}
pub use Rattle.cli.specs.Command.CertifiedRuns.{CertificatesHoldRuns}
pub use Rattle.cli.specs.Command.AnsweredRuns.{AnswersHoldRuns}
pub use Rattle.cli.specs.Command.GatedRuns.{GatesHoldRuns}
pub use Rattle.cli.specs.Command.VerifiedRuns.{VerifiedHoldRuns}
pub use Rattle.cli.specs.Command.ToldReplays.{ReplaysStandInReports}
pub use Rattle.cli.specs.Verified.ShownRuns.{ProvedTextsShowJustRuns, VerifiedHoldJustRuns}

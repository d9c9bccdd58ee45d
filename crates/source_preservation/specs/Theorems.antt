-- What the theorems on well-formed units say.
pub use Rattle.source_preservation.specs.Checks.TermLaws.{LooksMarkTerms, LooksMarkConditions}
pub use Rattle.source_preservation.specs.Items.ExpandedItems.{ExpandedItemsDo, LabelsDo, FunctionsDo}
pub use Rattle.source_preservation.specs.Liveness.NamedObjects.{ObjectsLiveWhereNamed}
pub use Rattle.source_preservation.specs.ValueTyping.MarkLaws.{OperationsKeepMarks, LinesKeepMarks}
pub use Rattle.source_preservation.specs.Safety.DefinedRuns.{RunsKeepMarks, RunsAreNeverStuck}
pub use Rattle.source_preservation.specs.SmallSteps.KeptMarks.{TurnsKeepMarks}
pub use Rattle.source_preservation.specs.UnitChecks.LookLaws.{LooksMark, LooksScope, LooksStand}

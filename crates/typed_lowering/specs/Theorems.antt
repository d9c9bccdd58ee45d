-- What the theorems on typed lowering say.
pub use Rattle.typed_lowering.specs.Conversions.TypedBases.{NamesAreTyped}
pub use Rattle.typed_lowering.specs.Conversions.ProgramLaws.{ShortTypesAreOwn, LoopedLocalsAreOwn, TypesStandWhereTheyBegin, TypedObjectsAreTyped, NormalizedTemplatesAreTyped, NormalizedTemplatesAreCalm}
pub use Rattle.typed_lowering.specs.Bases.FirstObjects.{FirstObjectsAreTyped}
pub use Rattle.typed_lowering.specs.InlinedPrograms.TypedInlinings.{TypedNamesMakeTypedInlinings}
pub use Rattle.typed_lowering.specs.LoopedUnits.CalmTemplates.{LoopedTemplatesAreCalm}
pub use Rattle.typed_lowering.specs.PlainPrograms.PlainPrograms.{PlainUnitsHavePlainPrograms}
pub use Rattle.typed_lowering.specs.Templates.TypedTemplates.{TypedWorksMakeTypedTemplates}
pub use Rattle.typed_lowering.specs.Units.TypedUnitLaws.{TypedUnitsHaveTypedAccesses, LoopedUnitsHaveTypedPrograms}
pub use Rattle.typed_lowering.specs.Conversions.WorkLaws.{WorksAreTyped}

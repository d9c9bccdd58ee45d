-- Templates of typed functions keep to what is known, where the works of their terms do.
use Rattle.typed_lowering.specs.Conversions.WorkLaws.{WorksAreTyped, TemplatesAreTyped}
use Rattle.typed_lowering.specs.Conversions.ProgramLaws.{TypesStandWhereTheyBegin}

abbrev pub TypedWorksMakeTypedTemplates : Type 0
TypedWorksMakeTypedTemplates = WorksAreTyped → TypesStandWhereTheyBegin → TemplatesAreTyped

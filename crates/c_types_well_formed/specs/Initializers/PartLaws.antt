-- The laws of what stands in initializers, declarations and statements.
use Rattle.c_types_well_formed.specs.WellFormed.MadeLaws.{ValuesAreMade, ConversionsGive, UnusedIsWellTyped, SwitchesSelect}
use Rattle.c_types_well_formed.specs.WellFormed.TypingLaws.{ExpressionsAreMade}
use Rattle.c_types_well_formed.specs.Types.TypeLaws.{SpecifiersKeep, DeclaratorsKeep}

pub record HasLaws : Type 0 where
  pub expressions : ExpressionsAreMade
  pub values : ValuesAreMade
  pub conversions : ConversionsGive
  pub unused : UnusedIsWellTyped
  pub switches : SwitchesSelect
  pub specifiers : SpecifiersKeep
  pub declarators : DeclaratorsKeep

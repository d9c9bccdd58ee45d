use Rattle.c_types_well_formed.proofs.rules.MadeRules.{conversions_give}
use Rattle.c_types_well_formed.proofs.theorems.conversions_give.Goals as goal

pub returns : goal.returns
returns c = conversions_give

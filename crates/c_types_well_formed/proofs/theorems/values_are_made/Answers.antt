use Rattle.c_types_well_formed.proofs.rules.MadeRules.{values_are_made}
use Rattle.c_types_well_formed.proofs.theorems.values_are_made.Goals as goal

pub returns : goal.returns
returns c = values_are_made

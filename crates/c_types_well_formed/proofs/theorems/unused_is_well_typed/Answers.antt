use Rattle.c_types_well_formed.proofs.rules.MadeRules.{unused_is_well_typed}
use Rattle.c_types_well_formed.proofs.theorems.unused_is_well_typed.Goals as goal

pub returns : goal.returns
returns c = unused_is_well_typed

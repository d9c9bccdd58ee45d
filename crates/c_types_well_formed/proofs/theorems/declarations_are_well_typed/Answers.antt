use Rattle.c_types_well_formed.proofs.initializers.Declaring.{local_adds}
use Rattle.c_types_well_formed.proofs.theorems.declarations_are_well_typed.Goals as goal

pub returns : goal.returns
returns c = local_adds

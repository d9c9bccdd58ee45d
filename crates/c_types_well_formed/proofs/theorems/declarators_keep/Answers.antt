use Rattle.c_types_well_formed.proofs.types.Declaring.{declarators_keep}
use Rattle.c_types_well_formed.proofs.theorems.declarators_keep.Goals as goal

pub returns : goal.returns
returns c = declarators_keep

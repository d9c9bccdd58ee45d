use Rattle.c_types_well_formed.proofs.types.Specifying.{specifiers_keep}
use Rattle.c_types_well_formed.proofs.theorems.specifiers_keep.Goals as goal

pub returns : goal.returns
returns c = specifiers_keep

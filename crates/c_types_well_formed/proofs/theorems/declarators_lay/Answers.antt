use Rattle.c_types_well_formed.proofs.layouts.Declaring.{declarators_lay}
use Rattle.c_types_well_formed.proofs.theorems.declarators_lay.Goals as goal

pub returns : goal.returns
returns c = declarators_lay

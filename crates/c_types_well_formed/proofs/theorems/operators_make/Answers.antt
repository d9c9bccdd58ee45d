use Rattle.c_types_well_formed.proofs.operators.MadeOperators.{operators_make}
use Rattle.c_types_well_formed.proofs.theorems.operators_make.Goals as goal

pub returns : goal.returns
returns c = operators_make

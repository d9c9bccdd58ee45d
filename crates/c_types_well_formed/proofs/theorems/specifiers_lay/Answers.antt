use Rattle.c_types_well_formed.proofs.layouts.Specifying.{specifiers_lay}
use Rattle.c_types_well_formed.proofs.theorems.specifiers_lay.Goals as goal

pub returns : goal.returns
returns c = specifiers_lay

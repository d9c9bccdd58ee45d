use Rattle.c_types_well_formed.proofs.layouts.Expressing.{expressions_lay}
use Rattle.c_types_well_formed.proofs.theorems.expressions_lay.Goals as goal

pub returns : goal.returns
returns c = expressions_lay

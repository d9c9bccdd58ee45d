use Rattle.c_types_well_formed.proofs.terms.Expressions.{lengths_keep}
use Rattle.c_types_well_formed.proofs.theorems.lengths_keep.Goals as goal

pub returns : goal.returns
returns c = lengths_keep

use Rattle.c_types_well_formed.proofs.terms.Expressions.{expressions_keep}
use Rattle.c_types_well_formed.proofs.theorems.expressions_keep.Goals as goal

pub returns : goal.returns
returns c = expressions_keep

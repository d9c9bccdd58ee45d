use Rattle.c_types_well_formed.proofs.terms.Expressions.{expressions_are_made}
use Rattle.c_types_well_formed.proofs.theorems.expressions_are_made.Goals as goal

pub returns : goal.returns
returns c = expressions_are_made

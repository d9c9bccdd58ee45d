use Rattle.c_types_expressions.specs.Expressions.Leaves.{callee_of}
use Rattle.c_types_expressions.proofs.expressions.leaves.callee_of.Goals as goal

pub returns : goal.returns
unfolding callee_of
returns c = c.callee_named.ensures

use Rattle.c_types_expressions.specs.Expressions.Leaves.{named}
use Rattle.c_types_expressions.proofs.expressions.leaves.named.Goals as goal

pub returns : goal.returns
unfolding named
returns c = c.name.ensures

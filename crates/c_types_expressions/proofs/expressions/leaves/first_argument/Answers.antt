use Rattle.c_types_expressions.proofs.expressions.Steps.{first_is}
use Rattle.c_types_expressions.proofs.expressions.leaves.first_argument.Goals as goal

pub returns : goal.returns
returns c = first_is c.first.result c.args.expressions.now c.first.ensures.value

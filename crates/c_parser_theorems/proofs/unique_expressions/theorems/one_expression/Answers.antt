use Rattle.c_parser_theorems.proofs.unique_expressions.Unique.{one_expression}
use Rattle.c_parser_theorems.proofs.unique_expressions.theorems.one_expression.Goals as goal

pub returns : goal.returns
returns c = one_expression

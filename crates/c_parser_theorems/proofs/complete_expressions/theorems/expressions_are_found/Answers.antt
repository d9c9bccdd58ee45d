use Rattle.c_parser_theorems.proofs.complete_expressions.TypeNames.{all_expressions_found}
use Rattle.c_parser_theorems.proofs.complete_expressions.theorems.expressions_are_found.Goals as goal

pub returns : goal.returns
returns c = all_expressions_found

use Rattle.c_parser.proofs.Parts.{in_parentheses}
use Rattle.c_parser.proofs.statement_parts.condition.Goals as goal

pub returns-clause-found : goal.returns-clause-found
returns-clause-found c = in_parentheses c.in_ok-expect.ensures.sign c.in_ok-found.ensures.found c.in_ok-expect-2.ensures.sign c.unboxed-tree.ensures

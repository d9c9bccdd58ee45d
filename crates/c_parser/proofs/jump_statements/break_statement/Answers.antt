use Rattle.c_parser.proofs.Jumps.{break_found}
use Rattle.c_parser.proofs.jump_statements.break_statement.Goals as goal

pub returns-clause-found : goal.returns-clause-found
returns-clause-found c = break_found c.in_ok-place.ensures.place c.in_ok-place.ensures.word c.in_ok-expect.ensures.sign c.break_node-tree.ensures c.in_ok-height.ensures.height.0 c.in_ok-height.ensures.height.1

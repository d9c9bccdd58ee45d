use Rattle.c_lexer.proofs.Only.{one_list, one_fault, no_both}
use Rattle.c_lexer.proofs.theorems.one_answer.Goals as goal

pub returns-clause-tokens : goal.returns-clause-tokens
returns-clause-tokens c = one_list

pub returns-clause-fault : goal.returns-clause-fault
returns-clause-fault c = one_fault

pub returns-clause-apart : goal.returns-clause-apart
returns-clause-apart c = no_both

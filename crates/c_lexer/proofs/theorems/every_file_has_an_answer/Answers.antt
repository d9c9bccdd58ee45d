use Rattle.c_lexer.proofs.Total.{answer_is}
use Rattle.c_lexer.proofs.theorems.every_file_has_an_answer.Goals as goal

pub returns : goal.returns
returns c = answer_is

use Rattle.c_preproc_macros.proofs.Laws.{repl-nil, repl-cons}
use Rattle.c_preproc_macros.proofs.theorems.goes_by_its_first_token.Goals as goal

pub returns : goal.returns
returns c = record { end = repl-nil; first = repl-cons }

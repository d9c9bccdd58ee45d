use Rattle.std.proofs.Common.{◌∙◌, ap, Err}
use Rattle.c_preproc.proofs.Told.{read_long}
use Rattle.c_preproc.proofs.file_search.read_if_held.Goals as goal

pub returns-in-Err-TooLong-clause-answer : goal.returns-in-Err-TooLong-clause-answer
returns-in-Err-TooLong-clause-answer g c = λ dirs model. c.too_long.ensures.cause _ dirs model (c.read.ensures.too_long (c.in-Err-TooLong.is ∙ ap Err c.in-Err-TooLong.field-0-is))

pub returns-in-Err-TooLong-clause-reads : goal.returns-in-Err-TooLong-clause-reads
returns-in-Err-TooLong-clause-reads g c = read_long _ _ _ _ _ c.too_long.result (c.read.ensures.too_long (c.in-Err-TooLong.is ∙ ap Err c.in-Err-TooLong.field-0-is)) c.too_long.ensures.long

use Rattle.cli_answers.proofs.Telling.{told_answers, failed_answers}
use Rattle.cli_answers.proofs.program.answer_words.Goals as goal

pub returns-in-Ok-put-clause-answer : goal.returns-in-Ok-put-clause-answer
returns-in-Ok-put-clause-answer g c =
    let whole = rw c.as_slice.ensures.value at c.in-Ok-put.ensures.ok in
    told_answers _ _ _ _ c.in-Ok.answer.text.items c.in-Ok.ensures.called (record { whole = whole; once = c.put.ensures.calls })

pub returns-in-Ok-clause-answer : goal.returns-in-Ok-clause-answer
returns-in-Ok-clause-answer g c =
    let front = rw c.as_slice.ensures.value at c.in-Err.ensures.prefix in
    failed_answers _ _ _ c.in-Ok.answer.status c.in-Ok.answer.text.items c.in-Ok.ensures.called (record { front = front; once = c.put.ensures.calls; fault = c.in-Err.ensures.failed })

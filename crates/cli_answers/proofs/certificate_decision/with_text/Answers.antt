use Rattle.std.proofs.Common.{◌<◌, inr, length, arith, ◌∙◌, ap}
use Rattle.cli_texts.specs.FixedTexts.{cert_too_long_text}
use Rattle.cli_answers.proofs.certificate_decision.with_text.Goals as goal

pub returns-in_ok-answer-clause-called : goal.returns-in_ok-answer-clause-called
returns-in_ok-answer-clause-called c =
    let count = c.len-count.ensures in
    let true-is = c.if-count-gt1048576.true in
    let over : 1048576 < length c.args.cert.items = omega arith in
    inr (over, c.in_ok-answer.ensures.status, c.in_ok-answer.ensures.text ∙ ap (cert_too_long_text c.args.unit.now) (c.len-count.ensures ∙ c.args.cert.ok.0))

use Rattle.std.proofs.Common.{string_bytes, map, IfOk, subst}
use Rattle.cli_units.specs.Judging.{judging, judgement, IsJudged}
use Rattle.cli_answers.specs.Answering.{AnswersReport}
use Rattle.cli_answers.proofs.Judged.{report_told}
use Rattle.cli_answers.proofs.decision.checked.Goals as goal

pub returns-in-Ok-clause-called : goal.returns-in-Ok-clause-called
returns-in-Ok-clause-called c =
    report_told (judging c.args.model.now (string_bytes c.args.command.now.entry) c.args.command.now.turns) c.args.unit.now (map string_bytes c.args.files.now) (string_bytes c.args.command.now.unit) (judgement c.in-Ok.judged)
    (subst (λ e. IsJudged c.args.unit.now (judging c.args.model.now e c.args.command.now.turns) (judgement c.in-Ok.judged)) c.as_str.ensures.value c.in-Ok.ensures.judged) c.args.command.now.format c.reported.result
    (subst (λ w. IfOk c.reported.result (λ a. AnswersReport (judgement c.in-Ok.judged).pairs c.args.command.now.format (map string_bytes c.args.files.now) w a.status a.text.items)) c.as_str-name.ensures.value c.reported.ensures.called)

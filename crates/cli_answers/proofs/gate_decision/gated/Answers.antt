use Rattle.std.proofs.Common.{string_bytes, map, IfOk, None, subst}
use Rattle.cli_words.specs.Words.Requests.{command_view}
use Rattle.cli_units.specs.Judging.{judging, judgement, IsJudged}
use Rattle.cli_answers.specs.Verdicts.{gate_setting}
use Rattle.cli_answers.specs.Gates.{AnswersNew}
use Rattle.cli_answers.proofs.Judged.{new_told}
use Rattle.cli_answers.proofs.gate_decision.gated.Goals as goal

pub returns-in-Ok-clause-called : goal.returns-in-Ok-clause-called
returns-in-Ok-clause-called c =
    new_told (gate_setting (command_view c.args.command.now) c.args.model.now) c.args.unit.now (map string_bytes c.args.files.now) (string_bytes c.args.command.now.unit) (judgement c.in-Ok.judged)
    (subst (λ e. IsJudged c.args.unit.now (judging c.args.model.now e None) (judgement c.in-Ok.judged)) c.as_str.ensures.value c.in-Ok.ensures.judged) c.args.known.now c.reported_anew.result
    (subst (λ w. IfOk c.reported_anew.result (λ a. AnswersNew (judgement c.in-Ok.judged).pairs c.args.known.now (map string_bytes c.args.files.now) w a.status a.text.items)) c.as_str-name.ensures.value c.reported_anew.ensures.called)

use Rattle.std.proofs.Common.{Ok, Err, ap, map, string_bytes}
use Rattle.std.proofs.lemmas.Result.{IfOk-weaker}
use Rattle.cli_words.specs.Words.Requests.{command_view}
use Rattle.cli_answers.proofs.Called.{names_expanded, made_from}
use Rattle.cli_answers.proofs.Certified.{proved_told, stop_proved_under}
use Rattle.cli_answers.specs.Verdicts.{FromFiles}
use Rattle.cli_answers.proofs.certificate_decision.prove_under.Goals as goal

pub returns-in-Ok-clause-called : goal.returns-in-Ok-clause-called
returns-in-Ok-clause-called g c =
    IfOk-weaker c.proved.result _ _
    (λ a h. proved_told _ (command_view c.args.command.now) c.args.model.now c.in-Ok.expanded (map string_bytes c.as_slice-in-Ok.result.now) a.status a.text.items
    (names_expanded (FromFiles _ (command_view c.args.command.now).dirs c.args.model.now (command_view c.args.command.now).unit) string_bytes c.expand.new.files.items c.as_slice-in-Ok.result.now c.args.model.now c.in-Ok.expanded c.in-Ok.ensures.model c.as_slice-in-Ok.ensures.value
    (made_from _ (command_view c.args.command.now).dirs (map string_bytes c.as_slice.result.now) c.args.model.now (command_view c.args.command.now).unit c.as_str-unit.result.now _ (Ok c.in-Ok.expanded) (ap (map string_bytes) c.as_slice.ensures.value) c.as_str-unit.ensures.value c.in-Ok.ensures.told)
    c.expand.ensures.distinct c.in-Ok.ensures.few) h)
    c.proved.ensures.called

pub returns-clause-called : goal.returns-clause-called
returns-clause-called g c =
    IfOk-weaker c.not_expanded.result _ _
    (λ a h. stop_proved_under _ (command_view c.args.command.now) c.args.model.now (map string_bytes c.expand.new.files.items) (map string_bytes c.as_slice-in-Err.result.now) c.as_str-unit.result.now (map string_bytes c.as_slice.result.now) c.in-Err.stop a.status a.text.items
    c.as_str-unit.ensures.value (ap (map string_bytes) c.as_slice.ensures.value) (ap (map string_bytes) c.as_slice-in-Err.ensures.value) c.in-Err.ensures.cause
    (made_from _ (command_view c.args.command.now).dirs (map string_bytes c.as_slice.result.now) c.args.model.now (command_view c.args.command.now).unit c.as_str-unit.result.now _ (Err c.in-Err.stop) (ap (map string_bytes) c.as_slice.ensures.value) c.as_str-unit.ensures.value c.in-Err.ensures.told) h)
    c.not_expanded.ensures.called

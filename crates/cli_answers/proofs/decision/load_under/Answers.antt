use Rattle.std.proofs.Common.{Ok, Err, ap, map, string_bytes, ◌∙◌}
use Rattle.std.proofs.lemmas.Result.{IfOk-weaker}
use Rattle.cli_words.specs.Words.Requests.{command_view}
use Rattle.cli_answers.proofs.Called.{names_expanded, made_of, loaded_under, stop_made_under}
use Rattle.cli_answers.specs.Verdicts.{FromBytes}
use Rattle.cli_texts.specs.LoadUnits.{load_of}
use Rattle.cli_answers.proofs.decision.load_under.Goals as goal

pub returns-in-Ok-clause-called : goal.returns-in-Ok-clause-called
returns-in-Ok-clause-called g c =
    IfOk-weaker c.loaded.result _ _
    (λ a h. loaded_under _ (command_view c.args.command.now) c.args.model.now c.in-Ok.expanded (map string_bytes c.as_slice-in-Ok.result.now) c.as_str-unit.result.now a.status a.text.items c.as_str-unit.ensures.value
    (names_expanded (FromBytes _ c.args.model.now (command_view c.args.command.now).unit (load_of (command_view c.args.command.now).seed (command_view c.args.command.now).count)) string_bytes c.expand_bytes.new.files.items c.as_slice-in-Ok.result.now c.args.model.now c.in-Ok.expanded c.in-Ok.ensures.model c.as_slice-in-Ok.ensures.value
    (made_of _ c.args.model.now (command_view c.args.command.now).unit c.as_str-unit.result.now c.as_slice.result.now _ _ (Ok c.in-Ok.expanded) c.as_str-unit.ensures.value (c.as_slice.ensures.value ∙ c.in_ok-bytes.ensures) c.in-Ok.ensures.told)
    c.expand_bytes.ensures.distinct c.in-Ok.ensures.few) h)
    c.loaded.ensures.called

pub returns-clause-called : goal.returns-clause-called
returns-clause-called g c =
    IfOk-weaker c.not_expanded.result _ _
    (λ a h. stop_made_under _ (command_view c.args.command.now) c.args.model.now (map string_bytes c.expand_bytes.new.files.items) (map string_bytes c.as_slice-in-Err.result.now) c.as_str-unit.result.now c.in-Err.stop a.status a.text.items
    c.as_str-unit.ensures.value (ap (map string_bytes) c.as_slice-in-Err.ensures.value) c.in-Err.ensures.cause
    (made_of _ c.args.model.now (command_view c.args.command.now).unit c.as_str-unit.result.now c.as_slice.result.now _ _ (Err c.in-Err.stop) c.as_str-unit.ensures.value (c.as_slice.ensures.value ∙ c.in_ok-bytes.ensures) c.in-Err.ensures.told) h)
    c.not_expanded.ensures.called

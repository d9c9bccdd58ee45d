use Rattle.std.proofs.Common.{◌∙◌, ap, map, string_bytes}
use Rattle.cli_texts.specs.Reports.{replay_of}
use Rattle.cli_answers.specs.Verdicts.{report_status}
use Rattle.cli_answers.proofs.replay_decision.told.Goals as goal

pub returns-clause-called : goal.returns-clause-called
returns-clause-called c =
    let names = map string_bytes c.args.files.now in
    let unit = c.args.unit.now in
    let diags = c.as_slice-diags.ensures.value in
    rw (← c.outcome.view_is) (
      c.status_for.ensures ∙ ap report_status diags,
      c.in_ok-text.ensures ∙ ap (λ d. replay_of names unit d c.end_word-end.result.now c.outcome.inside.used) diags ∙ ap (λ w. replay_of names unit c.outcome.inside.diags.items w c.outcome.inside.used) c.end_word-end.ensures,
    )

use Rattle.std.proofs.Common.{◌∙◌, ap}
use Rattle.cli_texts.specs.Summaries.{summary_of}
use Rattle.cli_answers.specs.Verdicts.{report_status}
use Rattle.cli_answers.proofs.decision.summarised.Goals as goal

pub returns-clause-called : goal.returns-clause-called
returns-clause-called c = record {
  diags = c.ordered_diagnostics-listed.result.items;
  listed = c.ordered_diagnostics-listed.ensures;
  by_status = c.status_for.ensures ∙ ap report_status c.as_slice-2.ensures.value;
  by_text = c.in_ok-text.ensures ∙ ap (summary_of c.args.unit.now c.args.judged.bases c.args.judged.cells) c.as_slice.ensures.value;
}

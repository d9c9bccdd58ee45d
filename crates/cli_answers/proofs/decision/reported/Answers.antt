use Rattle.std.proofs.Common.{◌∙◌, ap, map, string_bytes}
use Rattle.cli_answers.specs.Verdicts.{report_status, report_in}
use Rattle.cli_answers.proofs.decision.reported.Goals as goal

pub returns-clause-called : goal.returns-clause-called
returns-clause-called c = record {
  diags = c.ordered_diagnostics-listed.result.items;
  listed = c.ordered_diagnostics-listed.ensures;
  by_status = c.status_for.ensures ∙ ap report_status c.as_slice-2.ensures.value;
  by_text = c.in_ok-text.ensures ∙ ap (report_in c.args.format (map string_bytes c.args.files.now) c.args.unit.now) c.as_slice.ensures.value;
}

use Rattle.std.proofs.Common.{◌∙◌, ap, map, string_bytes}
use Rattle.sarif.specs.Comparing.{fresh_of}
use Rattle.cli_texts.specs.Reports.{report_of}
use Rattle.cli_answers.specs.Verdicts.{report_status}
use Rattle.cli_answers.proofs.gate_decision.reported_anew.Goals as goal

pub returns-clause-called : goal.returns-clause-called
returns-clause-called c =
    let left = c.in_ok-left.ensures ∙ ap (fresh_of (map string_bytes c.args.files.now) c.args.known.now) c.as_slice.ensures.value in
    record {
      all = c.ordered_diagnostics-listed.result.items;
      listed = c.ordered_diagnostics-listed.ensures;
      by_status = c.status_for.ensures ∙ ap report_status (c.as_slice-3.ensures.value ∙ left);
      by_text = c.in_ok-text.ensures ∙ ap (report_of (map string_bytes c.args.files.now) c.args.unit.now) (c.as_slice-2.ensures.value ∙ left);
    }

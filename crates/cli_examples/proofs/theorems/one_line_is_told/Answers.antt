use Rattle.cli_examples.proofs.reports.WorkedReport.{told_of}
use Rattle.cli_examples.proofs.theorems.one_line_is_told.Goals as goal

pub returns : goal.returns
returns c = λ some. told_of some c.tokens_are_parsed.ensures c.trees_are_checked.ensures (c.one_division_is_found.ensures some) c.held_bytes_give_one_unit.ensures.unit c.held_bytes_give_one_unit.ensures.model
    c.one_report.ensures.report c.one_report.ensures.verdict c.accepted_units_are_answered.ensures.answered

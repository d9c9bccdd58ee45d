use Rattle.cli_theorems.proofs.reports.OneReport.{one_read, one_made, one_verdict, one_summary}
use Rattle.cli_theorems.proofs.theorems.one_report.Goals as goal

pub returns : goal.returns
returns c = record {
  report = λ held dirs m main s names others diags more p q. one_read held dirs m main s names others diags more p q;
  summary = λ held m main bytes s. one_made held m main bytes s;
  verdict = λ seen command a v w is also. one_verdict seen command a v w is also;
  load = λ seen command a v w is also. one_summary seen command a v w is also;
}

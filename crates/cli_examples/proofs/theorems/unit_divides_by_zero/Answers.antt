use Rattle.cli_examples.proofs.reports.WorkedRuns.{divides}
use Rattle.cli_examples.proofs.theorems.unit_divides_by_zero.Goals as goal

pub returns : goal.returns
returns c = divides

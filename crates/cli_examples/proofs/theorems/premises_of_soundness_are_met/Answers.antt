use Rattle.cli_examples.proofs.reports.WorkedRuns.{met}
use Rattle.cli_examples.proofs.theorems.premises_of_soundness_are_met.Goals as goal

pub returns : goal.returns
returns c = λ some. met c.trees_are_checked.ensures (c.one_division_is_found.ensures some)

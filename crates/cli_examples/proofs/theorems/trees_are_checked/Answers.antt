use Rattle.cli_examples.proofs.units.Checking.{checked_to}
use Rattle.cli_examples.proofs.theorems.trees_are_checked.Goals as goal

pub returns : goal.returns
returns c = checked_to

use Rattle.domain_theorems.proofs.intervals.Rounding.{rounds_to_least}
use Rattle.domain_theorems.proofs.intervals.theorems.rounding_is_least.Goals as goal

pub returns : goal.returns
returns c = rounds_to_least

use Rattle.domain_theorems.specs.Intervals.Operations.{interval_monotone}
use Rattle.domain_theorems.proofs.intervals.theorems.intervals_are_monotone.Goals as goal

pub returns : goal.returns
returns c = interval_monotone

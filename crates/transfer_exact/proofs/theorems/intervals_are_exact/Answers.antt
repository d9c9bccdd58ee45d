use Rattle.transfer_exact.proofs.values.ExactIntervals.{intervals_exact}
use Rattle.transfer_exact.proofs.theorems.intervals_are_exact.Goals as goal

pub returns : goal.returns
returns c = intervals_exact

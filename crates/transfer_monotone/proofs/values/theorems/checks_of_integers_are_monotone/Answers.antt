use Rattle.transfer_monotone.proofs.values.IntegerChecks.{integer_checks}
use Rattle.transfer_monotone.proofs.values.theorems.checks_of_integers_are_monotone.Goals as goal

pub returns : goal.returns
returns g c = λ mono all flow k. integer_checks g.met.I.Lattice.order g.met.I.IntDomain.bounding mono g.met.I.IntDomain.ranges all flow k

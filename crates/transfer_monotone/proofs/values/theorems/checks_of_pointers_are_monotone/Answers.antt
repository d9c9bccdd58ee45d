use Rattle.transfer_monotone.proofs.values.PointerSteps.{pointer_checks}
use Rattle.transfer_monotone.proofs.values.theorems.checks_of_pointers_are_monotone.Goals as goal

pub returns : goal.returns
returns g c = λ mono all flow k. pointer_checks g.met.I.Lattice.order g.met.I.IntDomain.bounding mono g.met.I.IntDomain.ranges all flow k

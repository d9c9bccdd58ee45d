use Rattle.transfer_monotone.proofs.values.IntegerSteps.{integer_steps}
use Rattle.transfer_monotone.proofs.values.theorems.steps_on_integers_are_monotone.Goals as goal

pub returns : goal.returns
returns g c = λ mono all flow k. integer_steps g.met.I.Lattice.order g.met.I.IntDomain.bounding mono g.met.I.IntDomain.ranges all flow k

use Rattle.transfer_monotone.proofs.edges.Edges.{steps_rise}
use Rattle.transfer_monotone.proofs.edges.theorems.edges_and_instructions_are_monotone.Goals as goal

pub returns : goal.returns
returns g c = λ mono all flow k named rising. steps_rise g.met.I.Lattice.order g.met.I.IntDomain.bounding mono g.met.I.IntDomain.ranges all flow k named rising

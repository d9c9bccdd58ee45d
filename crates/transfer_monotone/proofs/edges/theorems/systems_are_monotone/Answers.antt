use Rattle.transfer_monotone.proofs.edges.Systems.{system_monotone}
use Rattle.transfer_monotone.proofs.edges.theorems.systems_are_monotone.Goals as goal

pub returns : goal.returns
returns g c = λ mono flow list near laid named rising. system_monotone g.met.I.Lattice.order g.met.I.Lattice.rounding g.met.I.Lattice.heights g.met.I.IntDomain.bounding mono g.met.I.IntDomain.ranges g.met.I.Bounded.ends flow list near laid named rising

use Rattle.system_monotone.proofs.struct_copies.StructCopies.{copies_rise}
use Rattle.system_monotone.proofs.theorems.struct_copies_are_monotone.Goals as goal

pub returns : goal.returns
returns g c = λ mono all flow k laid spread. copies_rise g.met.I.Lattice.order g.met.I.IntDomain.bounding mono g.met.I.IntDomain.ranges all flow k laid spread

use Rattle.domain_theorems.proofs.values.ZeroStands.{zero_meaning}
use Rattle.domain_theorems.proofs.values.theorems.zeros_are_sound.Goals as goal

pub returns : goal.returns
returns g c = zero_meaning g.met.I.Lattice.order g.met.I.IntDomain.bounding

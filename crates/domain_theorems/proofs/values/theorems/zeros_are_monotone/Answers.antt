use Rattle.domain_theorems.proofs.values.Together.{zero_laws}
use Rattle.domain_theorems.proofs.values.theorems.zeros_are_monotone.Goals as goal

pub returns : goal.returns
returns g c = zero_laws g.met.I.Lattice.order g.met.I.IntDomain.bounding

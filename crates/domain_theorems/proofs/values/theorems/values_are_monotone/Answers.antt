use Rattle.domain_theorems.proofs.values.Together.{value_laws}
use Rattle.domain_theorems.proofs.values.theorems.values_are_monotone.Goals as goal

pub returns : goal.returns
returns g c = λ m. value_laws g.met.I.Lattice.order g.met.I.IntDomain.bounding m

use Rattle.domain_theorems.proofs.values.Together.{pointer_laws}
use Rattle.domain_theorems.proofs.values.theorems.pointers_are_monotone.Goals as goal

pub returns : goal.returns
returns g c = λ m. pointer_laws g.met.I.Lattice.order g.met.I.IntDomain.bounding m

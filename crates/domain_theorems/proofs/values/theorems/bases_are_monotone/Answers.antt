use Rattle.domain_theorems.proofs.values.Together.{base_laws}
use Rattle.domain_theorems.proofs.values.theorems.bases_are_monotone.Goals as goal

pub returns : goal.returns
returns g c = base_laws g.met.I.Lattice.order g.met.I.IntDomain.bounding

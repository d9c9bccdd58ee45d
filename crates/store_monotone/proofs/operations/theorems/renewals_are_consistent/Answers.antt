use Rattle.store_monotone.proofs.operations.Together.{renews_consistent}
use Rattle.store_monotone.proofs.operations.theorems.renewals_are_consistent.Goals as goal

pub returns : goal.returns
returns g c = λ mono m bases k all temps h. renews_consistent g.met.I.Lattice.order g.met.I.IntDomain.bounding m bases k all temps h g.met.I.IntDomain.ranges mono

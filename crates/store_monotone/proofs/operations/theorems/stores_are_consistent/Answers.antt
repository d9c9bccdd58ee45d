use Rattle.store_monotone.proofs.operations.Together.{stores_consistent}
use Rattle.store_monotone.proofs.operations.theorems.stores_are_consistent.Goals as goal

pub returns : goal.returns
returns g c = λ m bases k all temps h. stores_consistent g.met.I.Lattice.order g.met.I.IntDomain.bounding m bases k all temps h g.met.I.IntDomain.ranges

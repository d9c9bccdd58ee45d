use Rattle.store_monotone.proofs.operations.Together.{stores}
use Rattle.store_monotone.proofs.operations.theorems.stores_are_monotone.Goals as goal

pub returns : goal.returns
returns g c = λ mono m bases k all temps h. stores g.met.I.Lattice.order g.met.I.IntDomain.bounding m bases k all temps h g.met.I.IntDomain.ranges mono

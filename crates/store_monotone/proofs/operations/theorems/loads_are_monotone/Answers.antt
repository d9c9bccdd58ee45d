use Rattle.store_monotone.proofs.operations.Together.{loads}
use Rattle.store_monotone.proofs.operations.theorems.loads_are_monotone.Goals as goal

pub returns : goal.returns
returns g c = λ mono m bases k all temps h. loads g.met.I.Lattice.order g.met.I.IntDomain.bounding m bases k all temps h mono

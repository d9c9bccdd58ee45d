use Rattle.store_monotone.proofs.operations.Together.{frees}
use Rattle.store_monotone.proofs.operations.theorems.frees_are_monotone.Goals as goal

pub returns : goal.returns
returns g c = λ m bases k all temps h. frees g.met.I.Lattice.order g.met.I.IntDomain.bounding m bases k all temps h

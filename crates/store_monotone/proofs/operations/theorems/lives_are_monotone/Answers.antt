use Rattle.store_monotone.proofs.operations.Together.{forgets, clears, leaves}
use Rattle.store_monotone.proofs.operations.theorems.lives_are_monotone.Goals as goal

pub returns : goal.returns
returns g c = record {
  forgotten = λ m bases k all temps h. forgets g.met.I.Lattice.order g.met.I.IntDomain.bounding m bases k all temps h;
  cleared = λ m bases k all temps h. clears g.met.I.Lattice.order g.met.I.IntDomain.bounding m bases k all temps h;
  left = λ m bases k all temps h. leaves g.met.I.Lattice.order g.met.I.IntDomain.bounding m bases k all temps h;
}

use Rattle.store_monotone.proofs.operations.Together.{spells_consistent}
use Rattle.store_monotone.proofs.operations.theorems.spells_are_consistent.Goals as goal

pub returns : goal.returns
returns g c = λ m bases k all temps h. spells_consistent g.met.I.Lattice.order g.met.I.IntDomain.bounding m bases k all temps h

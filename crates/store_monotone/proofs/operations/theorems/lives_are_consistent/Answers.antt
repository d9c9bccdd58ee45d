use Rattle.store_monotone.proofs.operations.ConsistentLives.{free_even, forget_even, clear_even, leave_even}
use Rattle.store_monotone.proofs.operations.theorems.lives_are_consistent.Goals as goal

pub returns : goal.returns
returns g c = λ bases. record {
  freed = λ r p h. free_even g.met.I.Lattice.order g.met.I.IntDomain.bounding bases p r h;
  forgotten = λ r number h. forget_even g.met.I.Lattice.order g.met.I.IntDomain.bounding bases number r h;
  cleared = λ r number h. clear_even g.met.I.Lattice.order g.met.I.IntDomain.bounding bases number r h;
  left = λ r number h. leave_even g.met.I.Lattice.order g.met.I.IntDomain.bounding bases number r h;
}

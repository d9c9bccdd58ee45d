-- In each lattice joins grow with what is joined.
use Rattle.cc_base.specs.Lattices.{LatticeOf, OrderLaws}
use Rattle.domain_theorems.specs.Values.JoinLaws.{JoinsRise}

pub joins_rise : {L : Type 0} {l : LatticeOf L} → OrderLaws l → JoinsRise l
joins_rise {L} {l} o x y u v h k = o.join_least x y (l.join u v) (o.transitive x u (l.join u v) h (o.join_left u v)) (o.transitive y v (l.join u v) k (o.join_right u v))

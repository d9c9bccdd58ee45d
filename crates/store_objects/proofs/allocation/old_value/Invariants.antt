use Rattle.std.proofs.Common.{◌≡◌, drop}
use Rattle.value_domain.specs.Values.Values.{value_lattice}
use Rattle.store_cells.specs.Walks.{walk}
use Rattle.store_objects.specs.Allocations.{old_more}
use Rattle.store_objects.proofs.allocation.old_value.Given as goal

abbrev pub invariant-loop-n : goal.invariant-loop-n
invariant-loop-n g l = walk (old_more g.I.Lattice.lattice g.I.IntDomain.numbers l.model l.row l.set l.target) l.n (drop l.n l.bases) l.found ≡ walk (old_more g.I.Lattice.lattice g.I.IntDomain.numbers l.model l.row l.set l.target) 0 l.bases (value_lattice g.I.Lattice.lattice).least

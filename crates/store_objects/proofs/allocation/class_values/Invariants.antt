use Rattle.std.proofs.Common.{◌≡◌, drop}
use Rattle.store_cells.specs.Walks.{walk}
use Rattle.store_objects.specs.Allocations.{class_leaf, class_cell}
use Rattle.store_objects.proofs.allocation.class_values.Given as goal

abbrev pub invariant-loop-at : goal.invariant-loop-at
invariant-loop-at g l = walk (class_leaf g.I.Lattice.lattice g.I.IntDomain.numbers l.model l.row l.target l.base) l.at (drop l.at l.leaves) l.found ≡ walk (class_leaf g.I.Lattice.lattice g.I.IntDomain.numbers l.model l.row l.target l.base) 0 l.leaves (class_cell g.I.Lattice.lattice g.I.IntDomain.numbers l.model l.row l.target l.base)

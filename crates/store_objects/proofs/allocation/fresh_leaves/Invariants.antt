use Rattle.std.proofs.Common.{◌≡◌, drop}
use Rattle.store_cells.specs.Walks.{walk}
use Rattle.store_objects.specs.Allocations.{fresh_leaf}
use Rattle.store_objects.proofs.allocation.fresh_leaves.Given as goal

abbrev pub invariant-loop-at : goal.invariant-loop-at
invariant-loop-at g l = walk (fresh_leaf g.I.Lattice.lattice g.I.IntDomain.numbers l.model l.bases l.new l.fresh) l.at (drop l.at l.leaves) l.row ≡ walk (fresh_leaf g.I.Lattice.lattice g.I.IntDomain.numbers l.model l.bases l.new l.fresh) 0 l.leaves l.initial.row

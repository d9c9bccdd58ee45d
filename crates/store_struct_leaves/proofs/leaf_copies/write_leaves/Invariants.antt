use Rattle.std.proofs.Common.{◌≡◌, drop}
use Rattle.store_cells.specs.Walks.{walk}
use Rattle.store_struct_leaves.specs.LeafCopies.{write_own_leaf}
use Rattle.store_struct_leaves.proofs.leaf_copies.write_leaves.Given as goal

abbrev pub invariant-loop-at : goal.invariant-loop-at
invariant-loop-at g l = walk (write_own_leaf g.I.Lattice.lattice g.I.IntDomain.numbers l.model l.base l.access l.value l.alone) l.at (drop l.at l.leaves) l.row ≡ walk (write_own_leaf g.I.Lattice.lattice g.I.IntDomain.numbers l.model l.base l.access l.value l.alone) 0 l.leaves l.initial.row

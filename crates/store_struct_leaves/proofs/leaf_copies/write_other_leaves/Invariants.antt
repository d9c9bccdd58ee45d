use Rattle.std.proofs.Common.{◌≡◌, drop}
use Rattle.store_cells.specs.Walks.{walk}
use Rattle.store_struct_leaves.specs.LeafCopies.{write_other_leaf}
use Rattle.store_struct_leaves.proofs.leaf_copies.write_other_leaves.Given as goal

abbrev pub invariant-loop-at : goal.invariant-loop-at
invariant-loop-at g l = walk (write_other_leaf g.I.Lattice.lattice g.I.IntDomain.numbers l.model l.base l.access l.value) l.at (drop l.at l.leaves) l.row ≡ walk (write_other_leaf g.I.Lattice.lattice g.I.IntDomain.numbers l.model l.base l.access l.value) 0 l.leaves l.initial.row

use Rattle.std.proofs.Common.{◌≡◌, drop}
use Rattle.store_cells.specs.Walks.{walk}
use Rattle.store_struct_leaves.specs.LeafCopies.{read_other_leaf, read_bytes}
use Rattle.store_struct_leaves.proofs.leaf_copies.read_others.Given as goal

abbrev pub invariant-loop-at : goal.invariant-loop-at
invariant-loop-at g l = walk (read_other_leaf g.I.Lattice.lattice g.I.IntDomain.numbers l.model l.base l.row l.access) l.at (drop l.at l.leaves) l.found ≡ walk (read_other_leaf g.I.Lattice.lattice g.I.IntDomain.numbers l.model l.base l.row l.access) 0 l.leaves (read_bytes g.I.Lattice.lattice g.I.IntDomain.numbers l.model l.base l.row l.access)

use Rattle.std.proofs.Common.{◌≡◌, drop}
use Rattle.store_cells.specs.Walks.{walk}
use Rattle.transfer_library_writes.specs.CopyWrites.{copy_leaf_of}
use Rattle.transfer_library_writes.proofs.copied_bytes.copy_leaves.Given as goal

abbrev pub invariant-loop-at : goal.invariant-loop-at
invariant-loop-at g l = walk (copy_leaf_of g.I.Lattice.lattice g.I.IntDomain.numbers l.model l.base l.write) l.at (drop l.at l.leaves) l.row ≡ walk (copy_leaf_of g.I.Lattice.lattice g.I.IntDomain.numbers l.model l.base l.write) 0 l.leaves l.initial.row

use Rattle.std.proofs.Common.{◌≡◌, drop}
use Rattle.store_cells.specs.Walks.{walk}
use Rattle.transfer_library_writes.specs.FillWrites.{fill_leaf_of}
use Rattle.transfer_library_writes.proofs.fill_writes.fill_leaves.Given as goal

abbrev pub invariant-loop-at : goal.invariant-loop-at
invariant-loop-at g l = walk (fill_leaf_of g.I.Lattice.lattice g.I.IntDomain.numbers l.model l.base l.write l.alone) l.at (drop l.at l.leaves) l.row ≡ walk (fill_leaf_of g.I.Lattice.lattice g.I.IntDomain.numbers l.model l.base l.write l.alone) 0 l.leaves l.initial.row

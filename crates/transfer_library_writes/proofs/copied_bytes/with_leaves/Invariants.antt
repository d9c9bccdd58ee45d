use Rattle.std.proofs.Common.{◌≡◌, drop}
use Rattle.store_cells.specs.Walks.{walk}
use Rattle.transfer_library_writes.specs.CopyWrites.{with_leaf}
use Rattle.transfer_library_writes.proofs.copied_bytes.with_leaves.Given as goal

abbrev pub invariant-loop-at : goal.invariant-loop-at
invariant-loop-at g l = walk (with_leaf g.I.Lattice.lattice g.I.IntDomain.numbers l.model l.base l.row l.window) l.at (drop l.at l.leaves) l.found ≡ walk (with_leaf g.I.Lattice.lattice g.I.IntDomain.numbers l.model l.base l.row l.window) 0 l.leaves l.initial.found

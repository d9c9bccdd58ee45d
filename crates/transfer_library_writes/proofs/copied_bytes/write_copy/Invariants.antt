use Rattle.std.proofs.Common.{◌≡◌, drop}
use Rattle.store_cells.specs.Walks.{walk}
use Rattle.transfer_library_writes.specs.CopyWrites.{copy_in}
use Rattle.transfer_library_writes.proofs.copied_bytes.write_copy.Given as goal

abbrev pub invariant-loop-n : goal.invariant-loop-n
invariant-loop-n g l = walk (copy_in g.I.Lattice.lattice g.I.IntDomain.numbers l.flow.model l.write) l.n (drop l.n l.bases) l.row ≡ walk (copy_in g.I.Lattice.lattice g.I.IntDomain.numbers l.flow.model l.write) 0 l.bases l.initial.row

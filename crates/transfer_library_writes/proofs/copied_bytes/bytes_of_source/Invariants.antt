use Rattle.std.proofs.Common.{◌≡◌, drop}
use Rattle.store_cells.specs.Walks.{walk}
use Rattle.transfer_library_writes.specs.CopyWrites.{with_base_of, no_bytes}
use Rattle.transfer_library_writes.proofs.copied_bytes.bytes_of_source.Given as goal

abbrev pub invariant-loop-n : goal.invariant-loop-n
invariant-loop-n g l = walk (with_base_of g.I.Lattice.lattice g.I.IntDomain.numbers l.flow.model l.row l.set l.window) l.n (drop l.n l.bases) l.found ≡ walk (with_base_of g.I.Lattice.lattice g.I.IntDomain.numbers l.flow.model l.row l.set l.window) 0 l.bases (no_bytes g.I.Lattice.lattice)

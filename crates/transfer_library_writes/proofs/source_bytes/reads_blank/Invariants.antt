use Rattle.std.proofs.Common.{◌≡◌, false, drop}
use Rattle.store_cells.specs.Walks.{walk}
use Rattle.transfer_library_writes.specs.Sources.{is_blank_or}
use Rattle.transfer_library_writes.proofs.source_bytes.reads_blank.Given as goal

abbrev pub invariant-loop-n : goal.invariant-loop-n
invariant-loop-n g l = walk (is_blank_or g.I.Lattice.lattice g.I.IntDomain.numbers l.model l.row l.set l.window) l.n (drop l.n l.bases) l.found ≡ walk (is_blank_or g.I.Lattice.lattice g.I.IntDomain.numbers l.model l.row l.set l.window) 0 l.bases false

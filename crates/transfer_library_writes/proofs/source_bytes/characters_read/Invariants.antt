use Rattle.std.proofs.Common.{◌≡◌, drop, None}
use Rattle.store_cells.specs.Walks.{walk}
use Rattle.transfer_library_writes.specs.Sources.{read_characters}
use Rattle.transfer_library_writes.proofs.source_bytes.characters_read.Given as goal

abbrev pub invariant-loop-n : goal.invariant-loop-n
invariant-loop-n g l = walk (read_characters g.I.Lattice.lattice g.I.IntDomain.numbers l.model l.row l.set l.access) l.n (drop l.n l.bases) l.found ≡ walk (read_characters g.I.Lattice.lattice g.I.IntDomain.numbers l.model l.row l.set l.access) 0 l.bases None

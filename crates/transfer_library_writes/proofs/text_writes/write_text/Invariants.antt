use Rattle.std.proofs.Common.{◌≡◌, drop}
use Rattle.store_cells.specs.Walks.{walk}
use Rattle.transfer_library_writes.specs.TextWrites.{write_in}
use Rattle.transfer_library_writes.proofs.text_writes.write_text.Given as goal

abbrev pub invariant-loop-n : goal.invariant-loop-n
invariant-loop-n g l = walk (write_in g.I.Lattice.lattice g.I.IntDomain.numbers l.flow.model l.write l.alone) l.n (drop l.n l.bases) l.row ≡ walk (write_in g.I.Lattice.lattice g.I.IntDomain.numbers l.flow.model l.write l.alone) 0 l.bases l.initial.row

use Rattle.std.proofs.Common.{◌≡◌, drop}
use Rattle.store_cells.specs.Walks.{walk}
use Rattle.transfer_library_writes.specs.FillWrites.{fill_in}
use Rattle.transfer_library_writes.proofs.fill_writes.write_fill.Given as goal

abbrev pub invariant-loop-n : goal.invariant-loop-n
invariant-loop-n g l = walk (fill_in g.I.Lattice.lattice g.I.IntDomain.numbers l.flow.model l.write l.alone) l.n (drop l.n l.bases) l.row ≡ walk (fill_in g.I.Lattice.lattice g.I.IntDomain.numbers l.flow.model l.write l.alone) 0 l.bases l.initial.row

use Rattle.std.proofs.Common.{◌≡◌, drop}
use Rattle.store_cells.specs.Walks.{walk}
use Rattle.transfer_library_writes.specs.FillWrites.{fill_zero}
use Rattle.transfer_library_writes.proofs.fill_writes.fill_zeros.Given as goal

abbrev pub invariant-loop-at : goal.invariant-loop-at
invariant-loop-at g l = walk (fill_zero g.I.Lattice.lattice g.I.IntDomain.numbers l.base l.write l.alone) l.at (drop l.at l.parts) l.row ≡ walk (fill_zero g.I.Lattice.lattice g.I.IntDomain.numbers l.base l.write l.alone) 0 l.parts l.initial.row

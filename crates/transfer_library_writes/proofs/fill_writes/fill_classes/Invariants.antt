use Rattle.std.proofs.Common.{◌≡◌}
use Rattle.store_cells.specs.Walks.{turns}
use Rattle.transfer_library_writes.specs.FillWrites.{fill_class}
use Rattle.transfer_library_writes.proofs.fill_writes.fill_classes.Given as goal

abbrev pub invariant-loop-number : goal.invariant-loop-number
invariant-loop-number g l = l.row ≡ turns (fill_class g.I.Lattice.lattice g.I.IntDomain.numbers l.model l.base l.write l.cleared) l.number l.initial.row

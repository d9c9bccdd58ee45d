use Rattle.std.proofs.Common.{◌≡◌}
use Rattle.store_cells.specs.Walks.{turns}
use Rattle.transfer_library_writes.specs.CopyWrites.{copy_class_of}
use Rattle.transfer_library_writes.proofs.copied_bytes.copy_class_cells.Given as goal

abbrev pub invariant-loop-number : goal.invariant-loop-number
invariant-loop-number g l = l.row ≡ turns (copy_class_of g.I.Lattice.lattice g.I.IntDomain.numbers l.model l.base l.write l.stray) l.number l.initial.row

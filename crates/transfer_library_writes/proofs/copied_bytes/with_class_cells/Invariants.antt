use Rattle.std.proofs.Common.{◌≡◌}
use Rattle.store_cells.specs.Walks.{turns}
use Rattle.transfer_library_writes.specs.CopyWrites.{with_class}
use Rattle.transfer_library_writes.proofs.copied_bytes.with_class_cells.Given as goal

abbrev pub invariant-loop-number : goal.invariant-loop-number
invariant-loop-number g l = l.found ≡ turns (with_class g.I.Lattice.lattice g.I.IntDomain.numbers l.base l.row l.stray) l.number l.initial.found

use Rattle.std.proofs.Common.{◌≡◌}
use Rattle.store_cells.specs.Walks.{turns}
use Rattle.transfer_library_writes.specs.TextWrites.{write_class}
use Rattle.transfer_library_writes.proofs.text_writes.write_class_cells.Given as goal

abbrev pub invariant-loop-number : goal.invariant-loop-number
invariant-loop-number g l = l.row ≡ turns (write_class g.I.Lattice.lattice g.I.IntDomain.numbers l.model l.base l.write) l.number l.initial.row

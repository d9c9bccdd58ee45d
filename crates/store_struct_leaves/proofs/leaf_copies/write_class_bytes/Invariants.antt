use Rattle.std.proofs.Common.{◌≡◌}
use Rattle.store_cells.specs.Walks.{turns}
use Rattle.store_struct_leaves.specs.LeafCopies.{write_class_byte}
use Rattle.store_struct_leaves.proofs.leaf_copies.write_class_bytes.Given as goal

abbrev pub invariant-loop-at : goal.invariant-loop-at
invariant-loop-at g l = l.row ≡ turns (write_class_byte g.I.Lattice.lattice g.I.IntDomain.numbers l.model l.base l.value) l.at l.initial.row

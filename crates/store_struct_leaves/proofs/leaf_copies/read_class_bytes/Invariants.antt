use Rattle.std.proofs.Common.{◌≡◌, None}
use Rattle.store_cells.specs.Walks.{turns}
use Rattle.store_struct_leaves.specs.LeafCopies.{read_class_byte}
use Rattle.store_struct_leaves.proofs.leaf_copies.read_class_bytes.Given as goal

abbrev pub invariant-loop-at : goal.invariant-loop-at
invariant-loop-at g l = l.found ≡ turns (read_class_byte g.I.Lattice.lattice g.I.IntDomain.numbers l.model l.base l.row l.access) l.at None

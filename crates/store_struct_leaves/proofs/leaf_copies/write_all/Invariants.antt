use Rattle.std.proofs.Common.{◌≡◌, drop}
use Rattle.store_cells.specs.Walks.{walk}
use Rattle.store_struct_leaves.specs.LeafCopies.{write_to}
use Rattle.store_struct_leaves.proofs.leaf_copies.write_all.Given as goal

abbrev pub invariant-loop-n : goal.invariant-loop-n
invariant-loop-n g l = walk (write_to g.I.Lattice.lattice g.I.IntDomain.numbers l.model l.set l.access l.value l.alone) l.n (drop l.n l.bases) l.row ≡ walk (write_to g.I.Lattice.lattice g.I.IntDomain.numbers l.model l.set l.access l.value l.alone) 0 l.bases l.initial.row

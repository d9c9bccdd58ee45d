use Rattle.std.proofs.Common.{◌≡◌, drop, None}
use Rattle.store_cells.specs.Walks.{walk}
use Rattle.store_struct_leaves.specs.LeafCopies.{read_from}
use Rattle.store_struct_leaves.proofs.leaf_copies.read_from_bases.Given as goal

abbrev pub invariant-loop-n : goal.invariant-loop-n
invariant-loop-n g l = walk (read_from g.I.Lattice.lattice g.I.IntDomain.numbers l.model l.row l.set l.access) l.n (drop l.n l.bases) l.found ≡ walk (read_from g.I.Lattice.lattice g.I.IntDomain.numbers l.model l.row l.set l.access) 0 l.bases None

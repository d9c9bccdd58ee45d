use Rattle.std.proofs.Common.{◌≡◌, drop, None}
use Rattle.store_cells.specs.Walks.{walk}
use Rattle.store.specs.Loads.{read_other_leaf}
use Rattle.store.proofs.loads.load_other_leaves.Given as goal

abbrev pub invariant-loop-at : goal.invariant-loop-at
invariant-loop-at g l = walk (read_other_leaf g.I.Lattice.lattice g.I.IntDomain.numbers l.model l.base l.row l.access) l.at (drop l.at l.leaves) l.found ≡ walk (read_other_leaf g.I.Lattice.lattice g.I.IntDomain.numbers l.model l.base l.row l.access) 0 l.leaves None

use Rattle.std.proofs.Common.{◌≡◌, drop}
use Rattle.store_cells.specs.Walks.{walk}
use Rattle.store.specs.Stores.{store_other_leaf}
use Rattle.store.proofs.stores.store_other_leaves.Given as goal

abbrev pub invariant-loop-at : goal.invariant-loop-at
invariant-loop-at g l = walk (store_other_leaf g.I.Lattice.lattice g.I.IntDomain.numbers l.model l.base l.write) l.at (drop l.at l.leaves) l.row ≡ walk (store_other_leaf g.I.Lattice.lattice g.I.IntDomain.numbers l.model l.base l.write) 0 l.leaves l.initial.row

use Rattle.std.proofs.Common.{◌≡◌, drop}
use Rattle.store_cells.specs.Walks.{walk}
use Rattle.store.specs.Stores.{store_to}
use Rattle.store.proofs.stores.store_all.Given as goal

abbrev pub invariant-loop-n : goal.invariant-loop-n
invariant-loop-n g l = walk (store_to g.I.Lattice.lattice g.I.IntDomain.numbers l.model l.set l.write) l.n (drop l.n l.bases) l.row ≡ walk (store_to g.I.Lattice.lattice g.I.IntDomain.numbers l.model l.set l.write) 0 l.bases l.initial.row

use Rattle.std.proofs.Common.{◌≡◌}
use Rattle.store_cells.specs.Walks.{turns}
use Rattle.store.specs.Stores.{store_other_class}
use Rattle.store.proofs.stores.store_other_classes.Given as goal

abbrev pub invariant-loop-at : goal.invariant-loop-at
invariant-loop-at g l = l.row ≡ turns (store_other_class g.I.Lattice.lattice g.I.IntDomain.numbers l.model l.base l.labels) l.at l.initial.row

use Rattle.std.proofs.Common.{◌≡◌, None}
use Rattle.store_cells.specs.Walks.{turns}
use Rattle.store.specs.Loads.{read_class_cell}
use Rattle.store.proofs.loads.load_other_class_cells.Given as goal

abbrev pub invariant-loop-at : goal.invariant-loop-at
invariant-loop-at g l = l.found ≡ turns (read_class_cell g.I.Lattice.lattice g.I.IntDomain.numbers l.model l.base l.row l.access) l.at None

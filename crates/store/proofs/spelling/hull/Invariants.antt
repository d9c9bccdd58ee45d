use Rattle.std.proofs.Common.{◌≡◌}
use Rattle.store_cells.specs.Walks.{turns}
use Rattle.store.specs.Spelling.{hull_more}
use Rattle.store.proofs.spelling.hull.Given as goal

abbrev pub invariant-loop-at : goal.invariant-loop-at
invariant-loop-at g l = l.found ≡ turns (hull_more g.I.Lattice.lattice g.I.IntDomain.numbers l.leaf l.offset l.text) l.at g.I.Lattice.lattice.least

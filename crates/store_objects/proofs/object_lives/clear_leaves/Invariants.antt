use Rattle.std.proofs.Common.{◌≡◌, drop}
use Rattle.store_cells.specs.Walks.{walk}
use Rattle.store_objects.specs.ObjectLives.{clear_leaf}
use Rattle.store_objects.proofs.object_lives.clear_leaves.Given as goal

abbrev pub invariant-loop-at : goal.invariant-loop-at
invariant-loop-at g l = walk (clear_leaf g.I.Lattice.lattice g.I.IntDomain.numbers l.base) l.at (drop l.at l.leaves) l.row ≡ walk (clear_leaf g.I.Lattice.lattice g.I.IntDomain.numbers l.base) 0 l.leaves l.initial.row

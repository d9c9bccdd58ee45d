use Rattle.std.proofs.Common.{◌≡◌, drop}
use Rattle.store_cells.specs.Walks.{walk}
use Rattle.store_objects.specs.Freeing.{free_base}
use Rattle.store_objects.proofs.freeing.free_bases.Given as goal

abbrev pub invariant-loop-n : goal.invariant-loop-n
invariant-loop-n g l = walk (free_base g.I.Lattice.lattice g.I.IntDomain.numbers l.set l.surely) l.n (drop l.n l.bases) l.row ≡ walk (free_base g.I.Lattice.lattice g.I.IntDomain.numbers l.set l.surely) 0 l.bases l.initial.row

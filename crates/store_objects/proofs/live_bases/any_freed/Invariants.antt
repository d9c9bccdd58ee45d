use Rattle.std.proofs.Common.{◌≡◌, drop, false}
use Rattle.store_cells.specs.Walks.{walk}
use Rattle.store_objects.specs.LiveBases.{is_freed_or}
use Rattle.store_objects.proofs.live_bases.any_freed.Given as goal

abbrev pub invariant-loop-n : goal.invariant-loop-n
invariant-loop-n g l = walk (is_freed_or g.I.Lattice.lattice g.I.IntDomain.numbers l.row l.set) l.n (drop l.n l.bases) l.found ≡ walk (is_freed_or g.I.Lattice.lattice g.I.IntDomain.numbers l.row l.set) 0 l.bases false

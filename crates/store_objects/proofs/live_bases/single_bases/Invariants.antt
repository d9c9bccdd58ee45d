use Rattle.std.proofs.Common.{◌≡◌, drop}
use Rattle.pointer_domain.specs.BaseSets.{no_base}
use Rattle.store_cells.specs.Walks.{walk}
use Rattle.store_objects.specs.LiveBases.{add_single}
use Rattle.store_objects.proofs.live_bases.single_bases.Given as goal

abbrev pub invariant-loop-n : goal.invariant-loop-n
invariant-loop-n l = walk add_single l.n (drop l.n l.bases) l.found ≡ walk add_single 0 l.bases no_base

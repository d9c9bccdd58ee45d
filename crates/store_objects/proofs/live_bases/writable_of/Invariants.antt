use Rattle.std.proofs.Common.{◌≡◌, drop}
use Rattle.pointer_domain.specs.BaseSets.{no_base}
use Rattle.store_cells.specs.Walks.{walk}
use Rattle.store_objects.specs.LiveBases.{add_writable}
use Rattle.store_objects.proofs.live_bases.writable_of.Given as goal

abbrev pub invariant-loop-n : goal.invariant-loop-n
invariant-loop-n l = walk (add_writable l.set) l.n (drop l.n l.bases) l.found ≡ walk (add_writable l.set) 0 l.bases no_base

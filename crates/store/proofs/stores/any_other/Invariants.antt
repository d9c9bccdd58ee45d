use Rattle.std.proofs.Common.{◌≡◌, drop, false}
use Rattle.store_cells.specs.Walks.{walk}
use Rattle.store.specs.Stores.{is_other_or}
use Rattle.store.proofs.stores.any_other.Given as goal

abbrev pub invariant-loop-at : goal.invariant-loop-at
invariant-loop-at l = walk (is_other_or l.model l.window) l.at (drop l.at l.leaves) l.found ≡ walk (is_other_or l.model l.window) 0 l.leaves false

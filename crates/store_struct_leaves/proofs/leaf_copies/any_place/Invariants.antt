use Rattle.std.proofs.Common.{◌≡◌, drop, false}
use Rattle.store_cells.specs.Walks.{walk}
use Rattle.store_struct_leaves.specs.LeafCopies.{has_place_or}
use Rattle.store_struct_leaves.proofs.leaf_copies.any_place.Given as goal

abbrev pub invariant-loop-n : goal.invariant-loop-n
invariant-loop-n l = walk (has_place_or l.model l.set l.access) l.n (drop l.n l.bases) l.found ≡ walk (has_place_or l.model l.set l.access) 0 l.bases false

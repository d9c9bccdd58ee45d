use Rattle.std.proofs.Common.{◌≡◌, ◌≤◌, take}
use Rattle.store_struct_leaves.specs.CopyPlaces.{reached_count}
use Rattle.store_struct_leaves.proofs.copy_places.reached_count.Given as goal

abbrev pub invariant-loop-leaf : goal.invariant-loop-leaf
invariant-loop-leaf l = (l.found ≡ reached_count (take l.leaf-index l.leaves) l.class l.span) × (l.found ≤ l.leaf-index)

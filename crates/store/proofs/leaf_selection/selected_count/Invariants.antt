use Rattle.std.proofs.Common.{◌≡◌, ◌≤◌, take}
use Rattle.store.specs.LeafSelection.{selected_count}
use Rattle.store.proofs.leaf_selection.selected_count.Given as goal

abbrev pub invariant-loop-leaf : goal.invariant-loop-leaf
invariant-loop-leaf l = (l.found ≡ selected_count (take l.leaf-index l.leaves) l.class l.window) × (l.found ≤ l.leaf-index)

use Rattle.std.proofs.Common.{◌≡◌, drop, false}
use Rattle.store_cells.specs.Walks.{walk}
use Rattle.store_struct_leaves.specs.LeafCopies.{is_touched_or}
use Rattle.store_struct_leaves.proofs.leaf_copies.any_touched.Given as goal

abbrev pub invariant-loop-at : goal.invariant-loop-at
invariant-loop-at l = walk (is_touched_or l.model l.span) l.at (drop l.at l.leaves) l.found ≡ walk (is_touched_or l.model l.span) 0 l.leaves false

use Rattle.std.proofs.Common.{◌≡◌, false}
use Rattle.store_struct_leaves.specs.CopyPlaces.{any_below}
use Rattle.store_struct_leaves.specs.LeafCopies.{window_padded}
use Rattle.store_struct_leaves.proofs.leaf_copies.any_padded.Given as goal

abbrev pub invariant-loop-number : goal.invariant-loop-number
invariant-loop-number l = any_below (window_padded l.model l.base l.span) l.number ≡ false

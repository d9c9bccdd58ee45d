use Rattle.std.proofs.Common.{◌≡◌, false}
use Rattle.store_struct_leaves.specs.CopyPlaces.{any_below}
use Rattle.store_structs.specs.PaddingWrites.{padded_view, place_padded}
use Rattle.store_structs.proofs.padding_writes.meets_leaf.Given as goal

abbrev pub invariant-loop-place : goal.invariant-loop-place
invariant-loop-place l = any_below (place_padded l.model (padded_view l.padded) l.leaf) l.place ≡ false

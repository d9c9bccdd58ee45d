use Rattle.std.proofs.Common.{◌≡◌, false}
use Rattle.store_struct_leaves.specs.CopyPlaces.{any_below, window_meets}
use Rattle.store_struct_leaves.proofs.copy_places.each_meets.Given as goal

abbrev pub invariant-loop-number : goal.invariant-loop-number
invariant-loop-number l = any_below (window_meets l.leaf l.span) l.number ≡ false

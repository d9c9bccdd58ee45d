use Rattle.std.proofs.Common.{◌+◌, ◌*◌}
use Rattle.store_structs.proofs.leaf_numbers.+folded.Given as goal

abbrev pub decreases-folded_leaf : goal.decreases-folded_leaf
decreases-folded_leaf l = 3 * l.depth + 2

abbrev pub decreases-folded_unit : goal.decreases-folded_unit
decreases-folded_unit l = 3 * l.depth + 1

abbrev pub decreases-folded_member : goal.decreases-folded_member
decreases-folded_member l = 3 * l.depth

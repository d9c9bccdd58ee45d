use Rattle.std.proofs.Common.{◌+◌, ◌*◌}
use Rattle.store_structs.proofs.leaf_numbers.+plain.Given as goal

abbrev pub decreases-plain_leaf : goal.decreases-plain_leaf
decreases-plain_leaf l = 3 * l.depth + 2

abbrev pub decreases-plain_unit : goal.decreases-plain_unit
decreases-plain_unit l = 3 * l.depth + 1

abbrev pub decreases-plain_member : goal.decreases-plain_member
decreases-plain_member l = 3 * l.depth

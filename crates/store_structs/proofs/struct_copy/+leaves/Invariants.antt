use Rattle.std.proofs.Common.{◌+◌, ◌*◌}
use Rattle.store_structs.proofs.struct_copy.+leaves.Given as goal

abbrev pub decreases-copy_leaves : goal.decreases-copy_leaves
decreases-copy_leaves g l = 2 * l.count

abbrev pub decreases-copy_leaf : goal.decreases-copy_leaf
decreases-copy_leaf g l = 2 * l.left + 1

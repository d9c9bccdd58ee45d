use Rattle.std.proofs.Common.{◌≡◌, drop}
use Rattle.memory_model.specs.Memory.Tags.{tag_at}
use Rattle.interp_memory.proofs.leaf_tags.tag_by_leaves.Given as goal

abbrev pub invariant-loop-leaf : goal.invariant-loop-leaf
invariant-loop-leaf l = tag_at l.model (drop l.leaf-index l.leaves) l.offset ≡ tag_at l.model l.leaves l.offset

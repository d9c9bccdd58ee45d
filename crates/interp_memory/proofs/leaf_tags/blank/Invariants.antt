use Rattle.std.proofs.Common.{◌≡◌, ◌-◌, ◌++◌}
use Rattle.memory_model.specs.Effects.ObjectEffects.{blank_bytes}
use Rattle.interp_memory.specs.ByteViews.{bytes_view}
use Rattle.interp_memory.proofs.leaf_tags.blank.Given as goal

abbrev pub invariant-loop-at : goal.invariant-loop-at
invariant-loop-at l = bytes_view l.bytes.items ++ blank_bytes l.model l.leaves l.at (l.size - l.at) ≡ blank_bytes l.model l.leaves 0 l.size

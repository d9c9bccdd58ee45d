use Rattle.std.proofs.Common.{◌≡◌, ◌-◌, ◌++◌, length, take}
use Rattle.memory_model.specs.Effects.ScalarBytes.{parts_from}
use Rattle.interp_memory.specs.ByteViews.{pointer_view, contents_view}
use Rattle.interp_memory.proofs.byte_writing.write_parts.Given as goal

abbrev pub invariant-loop-k : goal.invariant-loop-k
invariant-loop-k l =
    contents_view (take l.k l.into) ++ parts_from (pointer_view l.p) l.k (length l.into - l.k)
    ≡ parts_from (pointer_view l.p) 0 (length l.into)

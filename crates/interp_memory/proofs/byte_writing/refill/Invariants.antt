use Rattle.std.proofs.Common.{◌≡◌, ◌+◌, ◌++◌, take, drop}
use Rattle.memory_model.specs.Effects.ScalarBytes.{filled, refilled}
use Rattle.interp_memory.specs.ByteViews.{bytes_view, contents_view}
use Rattle.interp_memory.proofs.byte_writing.refill.Given as goal

abbrev pub invariant-loop-k : goal.invariant-loop-k
invariant-loop-k l =
    take (l.offset + l.k) (bytes_view l.bytes) ++ filled (drop (l.offset + l.k) (bytes_view l.bytes)) (drop l.k (contents_view l.contents))
    ≡ refilled (bytes_view l.initial.bytes) l.offset (contents_view l.contents)

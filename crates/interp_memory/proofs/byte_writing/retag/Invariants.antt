use Rattle.std.proofs.Common.{◌≡◌, ◌+◌, ◌++◌, length, take, drop}
use Rattle.memory_model.specs.Effects.ScalarBytes.{tagged_from, replaced}
use Rattle.interp_memory.specs.ByteViews.{bytes_view, contents_view}
use Rattle.interp_memory.proofs.byte_writing.retag.Given as goal

abbrev pub invariant-loop-k : goal.invariant-loop-k
invariant-loop-k l =
    take (l.offset + l.k) (bytes_view l.bytes) ++ (tagged_from l.class l.k (drop l.k (contents_view l.contents)) ++ drop (l.offset + length l.contents) (bytes_view l.bytes))
    ≡ replaced (bytes_view l.initial.bytes) l.offset (tagged_from l.class 0 (contents_view l.contents))

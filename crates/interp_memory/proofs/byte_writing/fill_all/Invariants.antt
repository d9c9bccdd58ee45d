use Rattle.std.proofs.Common.{◌≡◌, ◌++◌, take, drop}
use Rattle.memory_model.specs.Effects.ObjectEffects.{all_of}
use Rattle.interp_memory.specs.ByteViews.{content_view, bytes_view}
use Rattle.interp_memory.proofs.byte_writing.fill_all.Given as goal

abbrev pub invariant-loop-byte : goal.invariant-loop-byte
invariant-loop-byte l =
    bytes_view l.bytes
    ≡ all_of (content_view l.content) (take l.byte-index (bytes_view l.initial.bytes)) ++ drop l.byte-index (bytes_view l.initial.bytes)

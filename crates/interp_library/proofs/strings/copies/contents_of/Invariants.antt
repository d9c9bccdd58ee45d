use Rattle.std.proofs.Common.{◌≡◌, take}
use Rattle.memory_model.specs.Effects.ScalarBytes.{contents}
use Rattle.interp_memory.specs.ByteViews.{bytes_view, contents_view}
use Rattle.interp_library.proofs.strings.copies.contents_of.Given as goal

abbrev pub invariant-loop-byte : goal.invariant-loop-byte
invariant-loop-byte l = contents_view l.text.items ≡ contents (bytes_view (take l.byte-index l.bytes))

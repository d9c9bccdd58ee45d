use Rattle.std.proofs.Common.{◌≡◌, ◌-◌, ◌++◌, length, take}
use Rattle.memory_model.specs.Effects.ScalarBytes.{number_bytes}
use Rattle.interp_memory.specs.ByteViews.{labels_view, contents_view}
use Rattle.interp_memory.proofs.byte_writing.write_number.Given as goal

abbrev pub invariant-loop-content : goal.invariant-loop-content
invariant-loop-content l =
    contents_view (take l.content-index l.into) ++ number_bytes (length l.into - l.content-index) l.left (labels_view l.labels)
    ≡ number_bytes (length l.into) l.fn.number (labels_view l.labels)

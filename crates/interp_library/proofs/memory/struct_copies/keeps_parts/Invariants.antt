use Rattle.std.proofs.Common.{◌≡◌, drop}
use Rattle.memory_model.specs.Effects.StructCopies.{keeps_parts}
use Rattle.interp_memory.specs.ByteViews.{bytes_view}
use Rattle.interp_library.proofs.memory.struct_copies.keeps_parts.Given as goal

abbrev pub invariant-loop-k : goal.invariant-loop-k
invariant-loop-k l = keeps_parts l.model l.leaves l.k (bytes_view (drop l.k l.bytes)) ≡ keeps_parts l.model l.leaves 0 (bytes_view l.bytes)

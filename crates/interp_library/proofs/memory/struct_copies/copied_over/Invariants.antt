use Rattle.std.proofs.Common.{◌≡◌, ◌++◌, drop}
use Rattle.memory_model.specs.Effects.StructCopies.{copied}
use Rattle.interp_memory.specs.ByteViews.{bytes_view}
use Rattle.interp_library.proofs.memory.struct_copies.copied_over.Given as goal

abbrev pub invariant-loop-k : goal.invariant-loop-k
invariant-loop-k l = bytes_view l.all.items ++ copied l.model l.leaves l.allocated l.k (bytes_view (drop l.k l.tos)) (bytes_view (drop l.k l.froms)) ≡ copied l.model l.leaves l.allocated 0 (bytes_view l.tos) (bytes_view l.froms)

use Rattle.std.proofs.Common.{◌≡◌, drop}
use Rattle.memory_model.specs.Effects.StructCopies.{fit_type}
use Rattle.interp_memory.specs.ByteViews.{bytes_view}
use Rattle.interp_library.proofs.memory.struct_copies.fit_type.Given as goal

abbrev pub invariant-loop-k : goal.invariant-loop-k
invariant-loop-k l = fit_type l.model l.leaves l.allocated l.k (bytes_view (drop l.k l.bytes)) ≡ fit_type l.model l.leaves l.allocated 0 (bytes_view l.bytes)

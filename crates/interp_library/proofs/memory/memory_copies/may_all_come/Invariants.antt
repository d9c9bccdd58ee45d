use Rattle.std.proofs.Common.{◌≡◌, drop}
use Rattle.memory_model.specs.Effects.MemoryCalls.{may_all_come}
use Rattle.interp_memory.specs.ByteViews.{bytes_view}
use Rattle.interp_library.proofs.memory.memory_copies.may_all_come.Given as goal

abbrev pub invariant-loop-k : goal.invariant-loop-k
invariant-loop-k l = may_all_come (bytes_view (drop l.k l.tos)) (bytes_view (drop l.k l.froms)) ≡ may_all_come (bytes_view l.tos) (bytes_view l.froms)

use Rattle.std.proofs.Common.{◌≡◌, ◌++◌, false, drop}
use Rattle.memory_model.specs.Effects.MemoryCalls.{come_over}
use Rattle.interp_memory.specs.ByteViews.{bytes_view}
use Rattle.interp_library.proofs.memory.memory_copies.under_tags.Given as goal

abbrev pub invariant-loop-k : goal.invariant-loop-k
invariant-loop-k l = bytes_view l.all.items ++ come_over false (bytes_view (drop l.k l.tos)) (bytes_view (drop l.k l.froms)) ≡ come_over false (bytes_view l.tos) (bytes_view l.froms)

use Rattle.std.proofs.Common.{◌≡◌, drop}
use Rattle.memory_model.specs.Effects.ScalarBytes.{contents}
use Rattle.memory_model.specs.Effects.StringCalls.{order_in}
use Rattle.interp_memory.specs.ByteViews.{bytes_view}
use Rattle.interp_library.proofs.strings.comparisons.order_in.Given as goal

abbrev pub invariant-loop-k : goal.invariant-loop-k
invariant-loop-k l =
    order_in (contents (bytes_view (drop l.k l.left))) (contents (bytes_view (drop l.k l.right))) ≡ order_in (contents (bytes_view l.left)) (contents (bytes_view l.right))

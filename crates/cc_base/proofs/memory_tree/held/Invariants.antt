use Rattle.std.proofs.Common.{◌≡◌}
use Rattle.std.specs.Ordering.{nat_cmp}
use Rattle.std.specs.Cmp.Lexicographic.{slice_cmp}
use Rattle.std.specs.FinMap.{find}
use Rattle.std.specs.VecDeque.Iter.{deque_iter_rest}
use Rattle.cc_base.proofs.memory_tree.held.Given as goal

abbrev pub invariant-loop-entry : goal.invariant-loop-entry
invariant-loop-entry l =
    find (slice_cmp nat_cmp) l.name l.entries.items ≡ find (slice_cmp nat_cmp) l.name (deque_iter_rest l.entry-iterator)

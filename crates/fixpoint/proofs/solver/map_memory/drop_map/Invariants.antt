use Rattle.std.proofs.Common.{◌≡◌, ℕ, None, slice_index_or, vec_len}
use Rattle.fixpoint.proofs.solver.map_memory.drop_map.Given as goal

abbrev pub invariant-loop-slot : goal.invariant-loop-slot
invariant-loop-slot l = (b : ℕ) → slice_index_or l.map.items b None ≡ None

abbrev pub decreases-loop-slot : goal.decreases-loop-slot
decreases-loop-slot l = vec_len l.map

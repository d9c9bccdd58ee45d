use Rattle.std.proofs.Common.{◌≡◌, ◌≤◌, None, replicate, vec_capacity}
use Rattle.fixpoint.proofs.solver.map_memory.new_map.Given as goal

abbrev pub invariant-loop-block : goal.invariant-loop-block
invariant-loop-block l = (l.map.items ≡ replicate l._block None) × (l.blocks ≤ vec_capacity l.map)

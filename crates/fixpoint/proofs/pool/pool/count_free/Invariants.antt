use Rattle.std.proofs.Common.{◌≡◌, ◌≤◌, count_by, not, take}
use Rattle.fixpoint.proofs.pool.pool.count_free.Given as goal

abbrev pub invariant-loop-is_taken : goal.invariant-loop-is_taken
invariant-loop-is_taken l = (l.count ≡ count_by not (take l.is_taken-index l.taken)) × (l.count ≤ l.is_taken-index)

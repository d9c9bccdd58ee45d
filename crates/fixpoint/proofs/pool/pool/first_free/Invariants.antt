use Rattle.std.proofs.Common.{◌≡◌, count_by, not, take}
use Rattle.fixpoint.proofs.pool.pool.first_free.Given as goal

abbrev pub invariant-loop-index : goal.invariant-loop-index
invariant-loop-index l = count_by not (take l.index l.taken) ≡ 0

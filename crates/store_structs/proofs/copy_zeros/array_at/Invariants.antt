use Rattle.std.proofs.Common.{◌≡◌, drop}
use Rattle.store_structs.specs.CopyZeros.{array_at}
use Rattle.store_structs.proofs.copy_zeros.array_at.Given as goal

abbrev pub invariant-loop-at : goal.invariant-loop-at
invariant-loop-at l = array_at l.offset l.size l.at (drop l.at l.parts) ≡ array_at l.offset l.size 0 l.parts

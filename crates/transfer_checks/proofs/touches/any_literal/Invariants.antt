use Rattle.std.proofs.Common.{◌≡◌, drop, false}
use Rattle.store.specs.Walks.{walk}
use Rattle.transfer_checks.specs.Touches.{is_literal_or}
use Rattle.transfer_checks.proofs.touches.any_literal.Given as goal

abbrev pub invariant-loop-n : goal.invariant-loop-n
invariant-loop-n l = walk (is_literal_or l.set) l.n (drop l.n l.bases) l.found ≡ walk (is_literal_or l.set) 0 l.bases false

use Rattle.std.proofs.Common.{◌≡◌, None, take, FitsSigned, IfSome}
use Rattle.std.specs.Int.{w128}
use Rattle.std.specs.List.{fold}
use Rattle.interval_domain.specs.Numbers.Nearest.{nearer, int_ge}
use Rattle.interval_domain.proofs.numbers.nearest_numbers.first_above.Given as goal

abbrev pub invariant-loop-n : goal.invariant-loop-n
invariant-loop-n l = record {
  found : l.best ≡ fold (nearer int_ge l.x) None (take l.n-index l.list);
  fits : IfSome l.best (λ b. FitsSigned w128 b);
}

use Rattle.std.proofs.Common.{◌≡◌, None, int_le, take, FitsSigned, IfSome}
use Rattle.std.specs.Int.{w128}
use Rattle.std.specs.List.{fold}
use Rattle.interval_domain.specs.Numbers.Nearest.{nearer}
use Rattle.interval_domain.proofs.numbers.nearest_numbers.last_below.Given as goal

abbrev pub invariant-loop-n : goal.invariant-loop-n
invariant-loop-n l = record {
  found : l.best ≡ fold (nearer int_le l.x) None (take l.n-index l.list);
  fits : IfSome l.best (λ b. FitsSigned w128 b);
}

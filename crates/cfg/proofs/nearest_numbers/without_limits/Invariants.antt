use Rattle.std.proofs.Common.{◌≡◌, ◌++◌, drop}
use Rattle.cfg.specs.Nearest.{not_among}
use Rattle.cfg.proofs.nearest_numbers.without_limits.Given as goal

abbrev pub invariant-loop-at : goal.invariant-loop-at
invariant-loop-at l = l.out.items ++ not_among l.limits (drop l.at l.numbers) ≡ not_among l.limits l.numbers

use Rattle.std.proofs.Common.{◌≡◌, ◌++◌, drop}
use Rattle.cfg.specs.FlowNumbers.{bases_numbers}
use Rattle.cfg.proofs.threshold_numbers.push_bases.Given as goal

abbrev pub invariant-loop-at : goal.invariant-loop-at
invariant-loop-at l = l.out.items ++ bases_numbers (drop l.at l.bases) ≡ l.initial.out.items ++ bases_numbers l.bases

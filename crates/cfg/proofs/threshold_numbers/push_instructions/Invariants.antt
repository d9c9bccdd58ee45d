use Rattle.std.proofs.Common.{◌≡◌, ◌++◌, drop}
use Rattle.cfg.specs.FlowNumbers.{instructions_numbers}
use Rattle.cfg.proofs.threshold_numbers.push_instructions.Given as goal

abbrev pub invariant-loop-at : goal.invariant-loop-at
invariant-loop-at l = l.out.items ++ instructions_numbers (drop l.at l.instructions) ≡ l.initial.out.items ++ instructions_numbers l.instructions

use Rattle.std.proofs.Common.{◌≡◌, ◌++◌, drop}
use Rattle.cfg.specs.FlowNumbers.{blocks_numbers}
use Rattle.cfg.proofs.threshold_numbers.push_blocks.Given as goal

abbrev pub invariant-loop-at : goal.invariant-loop-at
invariant-loop-at l = l.out.items ++ blocks_numbers (drop l.at l.blocks) ≡ l.initial.out.items ++ blocks_numbers l.blocks

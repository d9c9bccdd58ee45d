use Rattle.std.proofs.Common.{◌≡◌, ◌+◌, drop}
use Rattle.cfg.specs.WellFormed as spec
use Rattle.cfg_checks.proofs.program_counts.all_instructions.Given as goal

abbrev pub invariant-loop-block : goal.invariant-loop-block
invariant-loop-block l = l.count + spec.all_instructions (drop l.block-index l.blocks) ≡ spec.all_instructions l.blocks

use Rattle.std.proofs.Common.{◌≡◌, drop}
use Rattle.cfg.specs.WellFormed as spec
use Rattle.cfg_checks.proofs.block_bodies.are_cases.Given as goal

abbrev pub invariant-loop-at : goal.invariant-loop-at
invariant-loop-at l = spec.are_cases (drop l.at l.own) ≡ spec.are_cases l.own

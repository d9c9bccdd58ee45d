use Rattle.std.proofs.Common.{◌≡◌, drop}
use Rattle.cfg.specs.WellFormed as spec
use Rattle.cfg_checks.proofs.block_bodies.is_body.Given as goal

abbrev pub invariant-loop-at : goal.invariant-loop-at
invariant-loop-at l = spec.is_body spec.On (drop l.at l.instructions) l.own ≡ spec.is_body spec.On l.instructions l.own

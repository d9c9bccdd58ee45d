use Rattle.std.proofs.Common.{◌≡◌, drop}
use Rattle.cfg.specs.BaseShapes as spec
use Rattle.cfg_bases_checks.proofs.apart_leaves.same_leaves.Given as goal

abbrev pub invariant-loop-at : goal.invariant-loop-at
invariant-loop-at l = spec.same_leaves (drop l.at l.a) (drop l.at l.b) ≡ spec.same_leaves l.a l.b

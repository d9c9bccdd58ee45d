use Rattle.std.proofs.Common.{◌≡◌, ◌≤◌, drop, length}
use Rattle.cfg.specs.BaseShapes as spec
use Rattle.cfg_bases_checks.proofs.first_zero_parts.lie_over.Given as goal

abbrev pub invariant-loop-leaf : goal.invariant-loop-leaf
invariant-loop-leaf l = (spec.lie_over l.done (drop l.leaf-index l.leaves) (drop l.at l.parts) ≡ spec.lie_over 0 l.leaves l.parts) × (l.at ≤ length l.parts)

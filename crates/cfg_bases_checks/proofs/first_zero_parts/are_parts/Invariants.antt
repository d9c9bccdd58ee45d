use Rattle.std.proofs.Common.{◌≡◌, drop}
use Rattle.cfg.specs.BaseShapes as spec
use Rattle.cfg_bases_checks.proofs.first_zero_parts.are_parts.Given as goal

abbrev pub invariant-loop-part : goal.invariant-loop-part
invariant-loop-part l = spec.are_parts l.room l.from (drop l.part-index l.parts) ≡ spec.are_parts l.room 0 l.parts

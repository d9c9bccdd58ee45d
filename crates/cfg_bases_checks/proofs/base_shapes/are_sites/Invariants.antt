use Rattle.std.proofs.Common.{◌≡◌, false, drop}
use Rattle.cfg.specs.BaseShapes as spec
use Rattle.cfg_bases_checks.proofs.base_shapes.are_sites.Given as goal

abbrev pub invariant-loop-at : goal.invariant-loop-at
invariant-loop-at l = spec.are_sites l.newest (drop l.at l.bases) ≡ spec.are_sites false l.bases

use Rattle.std.proofs.Common.{◌≡◌, drop}
use Rattle.cfg.specs.WellFormed as spec
use Rattle.cfg_bases_checks.proofs.base_tables.are_placed.Given as goal

abbrev pub invariant-loop-base : goal.invariant-loop-base
invariant-loop-base l = spec.are_placed l.first (drop l.base-index l.bases) ≡ spec.are_placed 0 l.bases

use Rattle.std.proofs.Common.{◌≡◌, ◌+◌, drop}
use Rattle.cfg.specs.WellFormed as spec
use Rattle.cfg_bases_checks.proofs.base_tables.all_cells.Given as goal

abbrev pub invariant-loop-base : goal.invariant-loop-base
invariant-loop-base l = l.count + spec.all_cells (drop l.base-index l.bases) ≡ spec.all_cells l.bases

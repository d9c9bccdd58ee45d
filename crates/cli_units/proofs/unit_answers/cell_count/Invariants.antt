use Rattle.std.proofs.Common.{◌≡◌, drop}
use Rattle.cli_units.specs.Judging.{cells_from}
use Rattle.cli_units.proofs.unit_answers.cell_count.Given as goal

abbrev pub invariant-loop-base : goal.invariant-loop-base
invariant-loop-base l = cells_from l.count (drop l.base-index l.bases) ≡ cells_from 0 l.bases

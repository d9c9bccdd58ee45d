use Rattle.unit_exact.proofs.units.SingleUnits.{finds_unit_run}
use Rattle.unit_exact.proofs.theorems.plain_units_are_exact.Goals as goal

pub returns : goal.returns
returns c = λ flow list found a. finds_unit_run c.looked_runs_are_program_runs.ensures c.looked_units_are_never_stuck.ensures c.unit_switches_are_apart.ensures c.units_without_loops_end.ensures flow list found a

use Rattle.unit_exact.proofs.unrolled.UnrolledUnits.{unrolled_units_told}
use Rattle.unit_exact.proofs.theorems.unrolled_units_are_exact.Goals as goal

pub returns : goal.returns
returns c = λ turns flow turned list found h a. unrolled_units_told c.looked_runs_are_program_runs.ensures c.looked_units_are_never_stuck.ensures c.unit_switches_are_apart.ensures c.units_without_loops_end.ensures turns flow turned list found h a

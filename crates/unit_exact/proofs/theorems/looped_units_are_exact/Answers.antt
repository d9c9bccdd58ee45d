use Rattle.unit_exact.proofs.unrolled.UnrolledUnits.{looped_units_told}
use Rattle.unit_exact.proofs.theorems.looped_units_are_exact.Goals as goal

pub returns : goal.returns
returns c = λ turns flow turned list found h a u limits is o looks single end stopped d. looped_units_told c.looked_runs_are_program_runs.ensures c.looked_units_are_never_stuck.ensures c.unit_switches_are_apart.ensures turns flow turned list found h a u limits is o looks single end stopped d

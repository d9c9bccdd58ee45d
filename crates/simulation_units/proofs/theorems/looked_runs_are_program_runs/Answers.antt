use Rattle.simulation_units.proofs.checked_units.LookedRuns.{program_runs}
use Rattle.simulation_units.proofs.theorems.looked_runs_are_program_runs.Goals as goal

pub returns : goal.returns
returns c = program_runs c.looked_units_are_never_stuck.ensures c.unit_runs_are_program_runs.ensures

use Rattle.simulation_layout.proofs.units.CheckedRuns.{checked_runs}
use Rattle.simulation_layout.proofs.theorems.checked_runs_are_the_same.Goals as goal

pub returns : goal.returns
returns c = checked_runs c.lowered_runs_are_the_same.ensures

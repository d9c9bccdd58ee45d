use Rattle.simulation_layout.proofs.jump_checks.Jumps.{regular_stand}
use Rattle.simulation_layout.proofs.theorems.regular_jumps_stand.Goals as goal

pub returns : goal.returns
returns c = regular_stand

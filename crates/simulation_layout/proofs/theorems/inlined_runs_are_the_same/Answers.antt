use Rattle.simulation_layout.proofs.inlined_runs.LoweredPrograms.{runs_agree}
use Rattle.simulation_layout.proofs.theorems.inlined_runs_are_the_same.Goals as goal

pub returns : goal.returns
returns c = λ u limits f o draws n left. runs_agree u limits f o draws n left

use Rattle.simulation_layout.proofs.inlined_runs.LoweredPrograms.{made_runs_agree}
use Rattle.simulation_layout.proofs.theorems.lowered_runs_are_the_same.Goals as goal

pub returns : goal.returns
returns c = λ u limits f o draws holds n. made_runs_agree u limits f o draws holds n

use Rattle.simulation_layout.proofs.normalized.NormalizedSteps.{runs_agree}
use Rattle.simulation_layout.proofs.theorems.normalized_runs_are_the_same.Goals as goal

pub returns : goal.returns
returns c = λ u made settles known draws n. runs_agree u made settles known draws n

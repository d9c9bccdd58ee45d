use Rattle.simulation_layout.proofs.inlined_layout.LaidSteps.{runs_agree}
use Rattle.simulation_layout.proofs.theorems.laid_runs_are_the_same.Goals as goal

pub returns : goal.returns
returns c = λ o entry out draws n left. runs_agree o entry out draws n left

use Rattle.analysis_determined.proofs.unrolled_runs.SameSteps.{runs_same}
use Rattle.analysis_determined.proofs.theorems.unrolled_runs_are_the_same.Goals as goal

pub returns : goal.returns
returns c = λ turns f linked. runs_same turns f linked

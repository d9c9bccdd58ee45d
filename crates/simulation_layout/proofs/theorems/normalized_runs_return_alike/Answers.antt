use Rattle.simulation_layout.specs.Normalized.NormalizedRuns.{NamesNothing}
use Rattle.simulation_layout.proofs.normalized.NormalizedReturns.{runs_return}
use Rattle.simulation_layout.proofs.theorems.normalized_runs_return_alike.Goals as goal

pub returns : goal.returns
returns c = λ u made settles known draws holds n. runs_return u made settles known NamesNothing draws holds n

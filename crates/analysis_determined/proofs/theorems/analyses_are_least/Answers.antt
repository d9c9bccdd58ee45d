use Rattle.analysis_determined.proofs.least_maps.LeastAnalyses.{least_analysis}
use Rattle.analysis_determined.proofs.theorems.analyses_are_least.Goals as goal

pub returns : goal.returns
returns c = λ flow list found a. least_analysis flow list found a

use Rattle.analysis_determined.proofs.least_maps.ExactAnalyses.{exact_analysis}
use Rattle.analysis_determined.proofs.theorems.analyses_are_exact.Goals as goal

pub returns : goal.returns
returns c = λ flow list found a. exact_analysis flow list found a

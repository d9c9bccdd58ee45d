use Rattle.analysis_determined.proofs.least_maps.ExactAnalyses.{exact_map}
use Rattle.analysis_determined.proofs.theorems.least_maps_are_exact.Goals as goal

pub returns : goal.returns
returns c = λ flow list h rows p. exact_map flow list h rows p

use Rattle.analysis_determined.proofs.least_maps.CountedSteps.{counted_edges}
use Rattle.analysis_determined.proofs.theorems.steps_are_counted.Goals as goal

pub returns : goal.returns
returns c = λ limits flow numbers h few. counted_edges limits flow numbers h few

use Rattle.simulation_statements.proofs.labels.FoundLabels.{found_there}
use Rattle.simulation_statements.proofs.labels.theorems.labels_are_found.Goals as goal

pub returns : goal.returns
returns c = λ u f enclosed known suits l has. found_there u f enclosed known suits l has

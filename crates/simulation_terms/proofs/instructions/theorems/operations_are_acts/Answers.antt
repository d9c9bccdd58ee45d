use Rattle.simulation_terms.proofs.instructions.OperationsAgree.{agree}
use Rattle.simulation_terms.proofs.instructions.theorems.operations_are_acts.Goals as goal

pub returns : goal.returns
returns c = λ t operation a d next vs s is holds e. agree t operation a d next vs s is holds e

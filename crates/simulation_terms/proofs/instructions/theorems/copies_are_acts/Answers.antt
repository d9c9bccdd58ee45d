use Rattle.simulation_terms.proofs.instructions.OperationsAgree.{copies_agree}
use Rattle.simulation_terms.proofs.instructions.theorems.copies_are_acts.Goals as goal

pub returns : goal.returns
returns c = λ t operation a v vs s is holds. copies_agree t operation a v vs s is holds

use Rattle.simulation_terms.proofs.instructions.OperationsAgree.{stores_agree}
use Rattle.simulation_terms.proofs.instructions.theorems.stores_are_acts.Goals as goal

pub returns : goal.returns
returns c = λ t kind v p vs s holds. stores_agree t kind v p vs s holds

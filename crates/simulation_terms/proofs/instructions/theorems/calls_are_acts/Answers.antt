use Rattle.simulation_terms.proofs.instructions.CallsAgree.{calls_agree}
use Rattle.simulation_terms.proofs.instructions.theorems.calls_are_acts.Goals as goal

pub returns : goal.returns
returns c = λ t function d count target site vs s holds e. calls_agree t function d count target site vs s holds e

use Rattle.simulation_terms.proofs.instructions.CallsAgree.{newest_there}
use Rattle.simulation_terms.proofs.instructions.theorems.newest_are_there.Goals as goal

pub returns : goal.returns
returns c = λ vs temps d n holds e. newest_there vs temps d n holds e

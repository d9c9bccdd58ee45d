use Rattle.simulation_layout.proofs.function_checks.NamesThere.{names_there}
use Rattle.simulation_layout.proofs.theorems.names_are_there.Goals as goal

pub returns : goal.returns
returns c = names_there

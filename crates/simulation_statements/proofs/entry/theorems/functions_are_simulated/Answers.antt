use Rattle.simulation_statements.proofs.entry.CalledFunctions.{all_simulate}
use Rattle.simulation_statements.proofs.entry.theorems.functions_are_simulated.Goals as goal

pub returns : goal.returns
returns c = λ t never made h g f caller callers reached calls is n. all_simulate t never made h g f caller callers reached calls is n

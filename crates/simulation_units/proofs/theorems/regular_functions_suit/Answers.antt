use Rattle.simulation_units.proofs.preconditions.SuitedStatements.{function_suits}
use Rattle.simulation_units.proofs.theorems.regular_functions_suit.Goals as goal

pub returns : goal.returns
returns c = function_suits

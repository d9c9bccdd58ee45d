use Rattle.simulation_layout.proofs.function_checks.UnitParts.{function_regular}
use Rattle.simulation_layout.proofs.theorems.functions_are_regular.Goals as goal

pub returns : goal.returns
returns c = function_regular

use Rattle.simulation_layout.proofs.function_checks.SwitchedIntegers.{switched_integers}
use Rattle.simulation_layout.proofs.theorems.switches_are_on_integers.Goals as goal

pub returns : goal.returns
returns c = switched_integers

use Rattle.simulation_terms.proofs.small_steps.TurnsSimulate.{simulate}
use Rattle.simulation_terms.proofs.small_steps.theorems.turns_are_simulated.Goals as goal

pub returns : goal.returns
returns c = λ t all n a b both. simulate t all n a b both

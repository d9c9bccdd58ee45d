use Rattle.simulation_terms.proofs.small_steps.TurnsSimulate.{runs_agree}
use Rattle.simulation_terms.proofs.small_steps.theorems.runs_are_simulated.Goals as goal

pub returns : goal.returns
returns c = λ t all start draws turns. runs_agree t all start draws turns

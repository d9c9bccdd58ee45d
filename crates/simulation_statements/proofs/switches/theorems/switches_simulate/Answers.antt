use Rattle.simulation_statements.proofs.switches.SwitchTargets.{switch_simulates}
use Rattle.simulation_statements.proofs.switches.theorems.switches_simulate.Goals as goal

pub returns : goal.returns
returns c = λ t n d at kind object base cases arms fallback body items ps are same targets. switch_simulates t n d at kind object base cases arms fallback body items ps are same targets

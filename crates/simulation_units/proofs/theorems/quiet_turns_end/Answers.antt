use Rattle.simulation_units.proofs.returns.QuietTurns as quiet_turns
use Rattle.simulation_units.proofs.theorems.quiet_turns_end.Goals as goal

pub returns : goal.returns
returns c = λ u r. quiet_turns.quiet_turns_end u r

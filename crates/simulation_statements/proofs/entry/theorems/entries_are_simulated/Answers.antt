use Rattle.simulation_statements.proofs.entry.CalledFunctions.{all_simulate}
use Rattle.simulation_statements.proofs.entry.EntrySimulates.{followed}
use Rattle.simulation_statements.proofs.entry.theorems.entries_are_simulated.Goals as goal

pub returns : goal.returns
returns c = λ t f e never made draws turns. followed t f e (all_simulate t never made) draws turns

use Rattle.simulation_statements.proofs.jump_simulation.Leaps.{leaps}
use Rattle.simulation_statements.proofs.jump_simulation.theorems.leaps_simulate.Goals as goal

pub returns : goal.returns
returns c = λ t s fits apart n from landing items to here l p none ps r m known rest stands. leaps s t fits apart n from landing items to here l p none ps r m known rest stands

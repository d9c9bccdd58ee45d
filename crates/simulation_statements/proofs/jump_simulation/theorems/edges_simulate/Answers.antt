use Rattle.simulation_statements.proofs.jump_simulation.Leaps.{edges}
use Rattle.simulation_statements.proofs.jump_simulation.theorems.edges_simulate.Goals as goal

pub returns : goal.returns
returns c = λ t s fits n from landing items to enough l w none_left p none ps r m known rest stands. edges s t fits n from landing items to enough l w none_left p none ps r m known rest stands

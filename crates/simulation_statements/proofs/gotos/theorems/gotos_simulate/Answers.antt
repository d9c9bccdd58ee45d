use Rattle.simulation_statements.proofs.gotos.Gotos.{simulates_goto}
use Rattle.simulation_statements.proofs.gotos.theorems.gotos_simulate.Goals as goal

pub returns : goal.returns
returns c = λ t s fits f has n l around items to there chain less is leads go p none ps r m known rest stands. simulates_goto t s fits f has n l around items to there chain less is leads go p none ps r m known rest stands

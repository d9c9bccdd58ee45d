use Rattle.simulation_statements.proofs.labels.LabelScopes.{in_scopes}
use Rattle.simulation_statements.proofs.labels.theorems.labels_stand_in_scopes.Goals as goal

pub returns : goal.returns
returns c = λ t s l i k c rest has chain. in_scopes t s l i k c rest has chain

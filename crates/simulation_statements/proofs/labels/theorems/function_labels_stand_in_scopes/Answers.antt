use Rattle.simulation_statements.proofs.labels.LabelScopes.{of_function}
use Rattle.simulation_statements.proofs.labels.theorems.function_labels_stand_in_scopes.Goals as goal

pub returns : goal.returns
returns c = λ t s f outer has n. of_function t s f outer has n

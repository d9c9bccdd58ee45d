use Rattle.simulation_statements.proofs.labels.NotedScopes.{in_function}
use Rattle.simulation_statements.proofs.labels.theorems.labels_are_noted.Goals as goal

pub returns : goal.returns
returns c = λ f n number other there once is. in_function f n number other there once is

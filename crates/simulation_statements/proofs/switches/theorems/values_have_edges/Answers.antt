use Rattle.simulation_statements.proofs.switches.ValueEdges.{has_edge}
use Rattle.simulation_statements.proofs.switches.theorems.values_have_edges.Goals as goal

pub returns : goal.returns
returns c = λ cases arms object fallback are value. has_edge cases arms object fallback are value

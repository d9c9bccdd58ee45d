use Rattle.simulation_layout.proofs.function_checks.ListedScopes.{scopes_apart}
use Rattle.simulation_layout.proofs.theorems.scopes_are_apart.Goals as goal

pub returns : goal.returns
returns c = scopes_apart

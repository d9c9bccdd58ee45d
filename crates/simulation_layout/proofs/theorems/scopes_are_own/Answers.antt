use Rattle.simulation_layout.proofs.function_checks.MarkedObjects.{scopes_own}
use Rattle.simulation_layout.proofs.theorems.scopes_are_own.Goals as goal

pub returns : goal.returns
returns c = scopes_own

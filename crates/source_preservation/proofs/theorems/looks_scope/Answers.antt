use Rattle.source_preservation.proofs.unit_checks.LookedScopes.{looks_scope}
use Rattle.source_preservation.proofs.theorems.looks_scope.Goals as goal

pub returns : goal.returns
returns c = looks_scope

use Rattle.source_preservation.proofs.checks.LookedTerms.{condition}
use Rattle.source_preservation.proofs.theorems.looks_mark_conditions.Goals as goal

pub returns : goal.returns
returns c = condition

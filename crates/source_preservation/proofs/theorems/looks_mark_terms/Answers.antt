use Rattle.source_preservation.proofs.checks.LookedTerms.{well_typed}
use Rattle.source_preservation.proofs.theorems.looks_mark_terms.Goals as goal

pub returns : goal.returns
returns c = well_typed

use Rattle.source_preservation.proofs.items.Expanding.{functions_do}
use Rattle.source_preservation.proofs.theorems.functions_do.Goals as goal

pub returns : goal.returns
returns c = functions_do

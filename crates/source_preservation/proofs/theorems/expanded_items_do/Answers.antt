use Rattle.source_preservation.proofs.items.Expanding.{expanded_do}
use Rattle.source_preservation.proofs.theorems.expanded_items_do.Goals as goal

pub returns : goal.returns
returns c = expanded_do

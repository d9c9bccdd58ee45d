use Rattle.source_preservation.proofs.items.Expanding.{labels_do}
use Rattle.source_preservation.proofs.theorems.labels_do.Goals as goal

pub returns : goal.returns
returns c = labels_do

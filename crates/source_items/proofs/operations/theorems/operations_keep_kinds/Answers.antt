use Rattle.source_items.proofs.operations.Performing.{keeps_kinds}
use Rattle.source_items.proofs.operations.theorems.operations_keep_kinds.Goals as goal

pub returns : goal.returns
returns c = keeps_kinds

use Rattle.source_items.proofs.operations.Performing.{has_steps}
use Rattle.source_items.proofs.operations.theorems.operations_have_steps.Goals as goal

pub returns : goal.returns
returns c = has_steps

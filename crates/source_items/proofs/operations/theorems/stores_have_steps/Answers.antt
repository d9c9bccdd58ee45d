use Rattle.source_items.proofs.operations.Performing.{store_has_step}
use Rattle.source_items.proofs.operations.theorems.stores_have_steps.Goals as goal

pub returns : goal.returns
returns c = store_has_step

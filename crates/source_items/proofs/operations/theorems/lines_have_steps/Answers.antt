use Rattle.source_items.proofs.operations.Performing.{line_has_step}
use Rattle.source_items.proofs.operations.theorems.lines_have_steps.Goals as goal

pub returns : goal.returns
returns c = line_has_step

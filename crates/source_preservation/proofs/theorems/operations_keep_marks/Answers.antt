use Rattle.source_preservation.proofs.operations.Performing.{keeps_marks}
use Rattle.source_preservation.proofs.theorems.operations_keep_marks.Goals as goal

pub returns : goal.returns
returns c = keeps_marks c.operations_have_steps.ensures c.operations_keep_kinds.ensures

use Rattle.source_progress.proofs.stack_kinds.Runs.{turns_keep}
use Rattle.source_progress.proofs.stack_kinds.theorems.turns_keep_kinds.Goals as goal

pub returns : goal.returns
returns c = turns_keep c.operations_keep_kinds.ensures

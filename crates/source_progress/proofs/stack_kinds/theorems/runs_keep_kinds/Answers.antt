use Rattle.source_progress.proofs.stack_kinds.Runs.{runs_keep}
use Rattle.source_progress.proofs.stack_kinds.theorems.runs_keep_kinds.Goals as goal

pub returns : goal.returns
returns c = runs_keep c.operations_keep_kinds.ensures

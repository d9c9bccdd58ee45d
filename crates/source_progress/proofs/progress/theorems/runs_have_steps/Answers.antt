use Rattle.source_progress.proofs.progress.Runs.{runs_steps}
use Rattle.source_progress.proofs.progress.theorems.runs_have_steps.Goals as goal

pub returns : goal.returns
returns c = runs_steps c.turns_have_steps.ensures c.runs_keep_kinds.ensures c.objects_live_where_named.ensures

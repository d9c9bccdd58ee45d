use Rattle.source_progress.proofs.progress.Runs.{stuck_at_open}
use Rattle.source_progress.proofs.progress.theorems.runs_are_stuck_at_open_steps.Goals as goal

pub returns : goal.returns
returns c = stuck_at_open c.turns_have_steps.ensures c.runs_keep_kinds.ensures c.objects_live_where_named.ensures

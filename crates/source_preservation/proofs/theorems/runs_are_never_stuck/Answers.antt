use Rattle.source_preservation.proofs.safety.Runs.{never_stuck}
use Rattle.source_preservation.proofs.theorems.runs_are_never_stuck.Goals as goal

pub returns : goal.returns
returns c = never_stuck c.turns_keep_marks.ensures c.objects_live_where_named.ensures

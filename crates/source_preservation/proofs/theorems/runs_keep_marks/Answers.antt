use Rattle.source_preservation.proofs.safety.Runs.{runs_keep}
use Rattle.source_preservation.proofs.theorems.runs_keep_marks.Goals as goal

pub returns : goal.returns
returns c = runs_keep c.turns_keep_marks.ensures c.objects_live_where_named.ensures

use Rattle.source_preservation.proofs.liveness.Runs.{all_live}
use Rattle.source_preservation.proofs.theorems.objects_live_where_named.Goals as goal

pub returns : goal.returns
returns c = all_live

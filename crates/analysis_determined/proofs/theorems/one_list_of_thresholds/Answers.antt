use Rattle.analysis_determined.proofs.program_views.OneList.{one_thresholds}
use Rattle.analysis_determined.proofs.program_views.SameNumbers.{one_list_of_views}
use Rattle.analysis_determined.proofs.theorems.one_list_of_thresholds.Goals as goal

pub returns : goal.returns
returns c = record { numbers = one_thresholds; views = one_list_of_views }

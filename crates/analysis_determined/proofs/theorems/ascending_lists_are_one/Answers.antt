use Rattle.analysis_determined.proofs.program_views.OneList.{one_list}
use Rattle.analysis_determined.proofs.theorems.ascending_lists_are_one.Goals as goal

pub returns : goal.returns
returns c = λ xs ys s t h k. one_list xs ys s t h k

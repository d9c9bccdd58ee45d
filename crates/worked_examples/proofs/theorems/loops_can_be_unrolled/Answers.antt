use Rattle.worked_examples.proofs.unrolled_unit.WorkedLoop.{program, looped_once}
use Rattle.worked_examples.proofs.theorems.loops_can_be_unrolled.Goals as goal

pub returns : goal.returns
returns c = λ some. (program some, looped_once some)

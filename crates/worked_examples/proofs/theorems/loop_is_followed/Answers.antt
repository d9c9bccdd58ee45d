use Rattle.worked_examples.proofs.one_loop.LoopSimulates.{followed}
use Rattle.worked_examples.proofs.theorems.loop_is_followed.Goals as goal

pub returns : goal.returns
returns c = λ b. followed b

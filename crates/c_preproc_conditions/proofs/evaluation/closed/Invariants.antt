use Rattle.std.proofs.Common.{◌≡◌, deque_len}
use Rattle.c_preproc_conditions.specs.Reading.{closed}
use Rattle.c_preproc_conditions.proofs.evaluation.closed.Given as goal

abbrev pub invariant-frames : goal.invariant-frames
invariant-frames l = closed l.stack.items l.value ≡ closed l.initial.stack.items l.initial.value

abbrev pub decreases-frames : goal.decreases-frames
decreases-frames l = deque_len l.stack

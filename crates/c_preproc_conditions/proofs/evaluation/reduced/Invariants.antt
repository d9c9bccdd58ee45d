use Rattle.std.proofs.Common.{◌≡◌, deque_len}
use Rattle.c_preproc_conditions.specs.Reading.{reduced}
use Rattle.c_preproc_conditions.proofs.evaluation.reduced.Given as goal

abbrev pub invariant-frames : goal.invariant-frames
invariant-frames l = reduced l.precedence l.stack.items l.value ≡ reduced l.precedence l.initial.stack.items l.initial.value

abbrev pub decreases-frames : goal.decreases-frames
decreases-frames l = deque_len l.stack

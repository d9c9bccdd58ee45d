use Rattle.std.proofs.Common.{◌≡◌, deque_len}
use Rattle.c_preproc_conditions.specs.Reading.{prefixed}
use Rattle.c_preproc_conditions.proofs.evaluation.prefixed.Given as goal

abbrev pub invariant-frames : goal.invariant-frames
invariant-frames l = prefixed l.stack.items l.value ≡ prefixed l.initial.stack.items l.initial.value

abbrev pub decreases-frames : goal.decreases-frames
decreases-frames l = deque_len l.stack

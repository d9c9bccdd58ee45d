use Rattle.std.proofs.Common.{◌≡◌, ◌++◌, reverse, vec_len}
use Rattle.lower_tables.proofs.bases.program_bases.schedule.Given as goal

abbrev pub invariant-loop-base : goal.invariant-loop-base
invariant-loop-base l = l.stack.items ++ reverse l.bases.items ≡ l.initial.stack.items ++ reverse l.initial.bases.items

abbrev pub decreases-loop-base : goal.decreases-loop-base
decreases-loop-base l = vec_len l.bases

use Rattle.std.proofs.Common.{◌≡◌, ◌++◌, map, reverse, vec_len}
use Rattle.lower_templates.specs.Worklist.Works.{job}
use Rattle.lower_functions.proofs.functions.finished_works.schedule.Given as goal

abbrev pub invariant-loop-work : goal.invariant-loop-work
invariant-loop-work l = map job l.stack.items ++ reverse (map job l.works.items) ≡ map job l.initial.stack.items ++ reverse (map job l.initial.works.items)

abbrev pub decreases-loop-work : goal.decreases-loop-work
decreases-loop-work l = vec_len l.works

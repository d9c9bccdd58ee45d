use Rattle.std.proofs.Common.{◌≡◌}
use Rattle.lower_templates.specs.Worklist.Plans.{plan}
use Rattle.lower_templates.specs.Worklist.Settings.{setting}
use Rattle.lower_functions.specs.Functions.Turns.{going, begun, after}
use Rattle.lower_functions.proofs.functions.finished_works.finished.Given as goal

abbrev pub invariant-loop-turn : goal.invariant-loop-turn
invariant-loop-turn l = going l.making ≡ after (setting l.cx) l._turn (begun (plan l.fn.builder))

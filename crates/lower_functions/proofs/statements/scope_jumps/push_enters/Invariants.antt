use Rattle.std.proofs.Common.{◌≡◌, drop}
use Rattle.lower_templates.specs.Worklist.Plans.{plan}
use Rattle.lower_functions.specs.Statements.ScopeJumps.{all_entered}
use Rattle.lower_functions.proofs.statements.scope_jumps.push_enters.Given as goal

abbrev pub invariant-loop-object : goal.invariant-loop-object
invariant-loop-object l = all_entered l.place (drop l.object-index l.objects) (plan l.builder) ≡ all_entered l.place l.objects (plan l.initial.builder)

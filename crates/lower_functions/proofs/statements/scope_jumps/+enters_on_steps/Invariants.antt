use Rattle.std.proofs.Common.{length}
use Rattle.lower_functions.proofs.statements.scope_jumps.+enters_on_steps.Given as goal

abbrev pub decreases-enters_on_steps : goal.decreases-enters_on_steps
decreases-enters_on_steps l = length l.steps.now

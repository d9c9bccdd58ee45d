use Rattle.lower_functions.proofs.functions.Numbers.{counted_on}
use Rattle.lower_functions.proofs.functions.function_templates.numbers_below.Goals as goal

pub loop-number-preserved : goal.loop-number-preserved
loop-number-preserved c = counted_on _ _ _ _ c.loop-number-test.true c.in_ok-push.ensures.items c.loop-number.invariant

use Rattle.std.proofs.Common.{◌≡◌, ◌++◌, ◌-◌}
use Rattle.lower_functions.specs.Functions.Functions.{numbers_from}
use Rattle.lower_functions.proofs.functions.function_templates.numbers_below.Given as goal

abbrev pub invariant-loop-number : goal.invariant-loop-number
invariant-loop-number l = l.list.items ++ numbers_from l.number (l.count - l.number) ≡ numbers_from 0 l.count

use Rattle.std.proofs.Common.{◌≡◌, ◌≤◌, ◌+◌, ◌-◌, ◌++◌, reverse}
use Rattle.lower_functions.specs.Functions.Functions.{numbers_from}
use Rattle.interp_stack.proofs.scopes.push_numbers.Given as goal

abbrev pub invariant-back : goal.invariant-back
invariant-back l = (l.k ≤ l.count) × (l.list.items ≡ l.initial.list.items ++ reverse (numbers_from (l.from + l.k) (l.count - l.k)))

abbrev pub decreases-back : goal.decreases-back
decreases-back l = l.k

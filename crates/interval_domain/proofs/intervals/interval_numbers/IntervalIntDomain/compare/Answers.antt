use Rattle.std.proofs.Common.{◌≡◌, subst, sym}
use Rattle.interval_domain.specs.Intervals.Exactness.{IsExactCompare, exact_compare}
use Rattle.interval_domain.proofs.intervals.interval_numbers.IntervalIntDomain.compare.Goals as goal

pub returns-clause-exact : goal.returns-clause-exact
returns-clause-exact c = subst (IsExactCompare c.args.rel c.args.self c.args.other) (sym c.interval_compare.ensures) (exact_compare c.args.rel c.args.self c.args.other)

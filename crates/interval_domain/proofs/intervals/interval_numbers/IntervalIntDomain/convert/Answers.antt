use Rattle.std.proofs.Common.{◌≡◌, subst, sym}
use Rattle.interval_domain.specs.Intervals.Exactness.{IsBestConversion, best_conversion}
use Rattle.interval_domain.proofs.intervals.interval_numbers.IntervalIntDomain.convert.Goals as goal

pub returns-clause-best : goal.returns-clause-best
returns-clause-best c = subst (IsBestConversion c.args.self c.args.to) (sym c.interval_convert.ensures) (best_conversion c.args.self c.args.to c.requires.size)

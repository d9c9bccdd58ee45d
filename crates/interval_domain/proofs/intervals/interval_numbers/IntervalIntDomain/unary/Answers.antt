use Rattle.std.proofs.Common.{◌≡◌, subst, sym}
use Rattle.interval_domain.specs.Intervals.Exactness.{IsBestUnary, best_unary}
use Rattle.interval_domain.proofs.intervals.interval_numbers.IntervalIntDomain.unary.Goals as goal

pub returns-clause-best : goal.returns-clause-best
returns-clause-best c = subst (IsBestUnary c.args.op c.args.self c.args.kind) (sym c.interval_unary.ensures) (best_unary c.args.op c.args.self c.args.kind c.requires.size)

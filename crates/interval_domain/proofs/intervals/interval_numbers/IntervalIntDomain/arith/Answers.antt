use Rattle.std.proofs.Common.{◌≡◌, subst, sym}
use Rattle.interval_domain.specs.Intervals.Exactness.{IsBestArith, best_arith}
use Rattle.interval_domain.proofs.intervals.interval_numbers.IntervalIntDomain.arith.Goals as goal

pub returns-clause-best : goal.returns-clause-best
returns-clause-best c = subst (IsBestArith c.args.op c.args.self c.args.other c.args.kind) (sym c.interval_arith.ensures) (best_arith c.args.op c.args.self c.args.other c.args.kind c.requires.size)

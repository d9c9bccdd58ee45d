use Rattle.std.proofs.Common.{◌≡◌, subst, sym}
use Rattle.interval_domain.specs.Intervals.Exactness.{IsBestRefinement, best_refinement}
use Rattle.interval_domain.proofs.intervals.interval_numbers.IntervalIntDomain.refine.Goals as goal

pub returns-clause-best : goal.returns-clause-best
returns-clause-best c = subst (IsBestRefinement c.args.rel c.args.self c.args.other) (sym c.interval_refine.ensures) (best_refinement c.args.rel c.args.self c.args.other)

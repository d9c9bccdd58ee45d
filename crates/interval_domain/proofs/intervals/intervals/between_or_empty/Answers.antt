use Rattle.std.proofs.Common.{arith}
use Rattle.std.proofs.lemmas.Int.{ints}
use Rattle.interval_domain.specs.Intervals.Spans.{of_is, between_none}
use Rattle.std.proofs.Common.{sym}
use Rattle.interval_domain.proofs.intervals.intervals.between_or_empty.Goals as goal

pub returns-then-lo-hi : goal.returns-then-lo-hi
returns-then-lo-hi c = of_is _ _ _ (omega (arith, ints)) (omega (arith, ints))

pub returns-else-lo-hi : goal.returns-else-lo-hi
returns-else-lo-hi c = sym (between_none c.args.lo c.args.hi (omega (arith, ints)))

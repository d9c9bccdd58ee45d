use Rattle.std.proofs.Common.{arith}
use Rattle.std.proofs.lemmas.Int.{ints, clamps}
use Rattle.interval_domain.proofs.intervals.Made.{is_below}
use Rattle.interval_domain.proofs.intervals.span_division.divisors_below.Goals as goal

pub returns-clause-apart : goal.returns-clause-apart
returns-clause-apart c = is_below _ _ _ c.between_or_empty.ensures (omega (arith, ints, clamps, c.min.ensures.value))

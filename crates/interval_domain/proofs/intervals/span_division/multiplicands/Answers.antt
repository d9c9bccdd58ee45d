use Rattle.std.proofs.Common.{arith}
use Rattle.std.proofs.lemmas.Int.{ints, clamps}
use Rattle.interval_domain.proofs.intervals.Made.{are_multiplicands}
use Rattle.interval_domain.proofs.intervals.span_division.multiplicands.Goals as goal

pub returns-clause-range : goal.returns-clause-range
returns-clause-range c = are_multiplicands c.args.kind _ _ _ c.between_or_empty.ensures (omega (arith, ints, clamps, c.max.ensures.value)) (omega (arith, ints, clamps, c.min.ensures.value, c.greatest.ensures))

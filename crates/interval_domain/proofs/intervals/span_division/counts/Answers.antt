use Rattle.std.proofs.Common.{arith}
use Rattle.std.proofs.lemmas.Int.{ints, clamps}
use Rattle.interval_domain.proofs.intervals.Made.{are_counts}
use Rattle.interval_domain.proofs.intervals.Ranges.{width_small}
use Rattle.interval_domain.proofs.intervals.span_division.counts.Goals as goal

pub returns-clause-range : goal.returns-clause-range
returns-clause-range c = let s = width_small c.args.kind.bytes c.requires.size in are_counts _ _ _ c.between_or_empty.ensures (omega (arith, ints, clamps, c.max.ensures.value)) (omega (arith, ints, clamps, c.min.ensures.value, c.width.ensures))

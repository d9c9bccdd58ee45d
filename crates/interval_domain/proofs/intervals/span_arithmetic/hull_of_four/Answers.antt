use Rattle.std.proofs.Common.{arith}
use Rattle.std.proofs.lemmas.Int.{to_z-of_z}
use Rattle.interval_domain.proofs.intervals.span_arithmetic.hull_of_four.Goals as goal

pub returns : goal.returns
returns c = let h = c.between_or_empty.ensures in grind (arith, to_z-of_z)

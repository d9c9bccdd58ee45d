use Rattle.std.proofs.Common.{arith}
use Rattle.std.proofs.lemmas.Int.{to_z-of_z}
use Rattle.interval_domain.proofs.intervals.span_division.quotients_by_span.Goals as goal

pub returns : goal.returns
returns c = let h = c.hull_of_four.ensures in grind (arith, to_z-of_z)

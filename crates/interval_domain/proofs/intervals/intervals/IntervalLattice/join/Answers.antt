use Rattle.std.proofs.Common.{arith}
use Rattle.std.proofs.lemmas.Int.{to_z-of_z}
use Rattle.interval_domain.specs.Intervals.IntervalOrder.{join_is}
use Rattle.interval_domain.proofs.intervals.intervals.IntervalLattice.join.Goals as goal

pub returns-in-Of-Of : goal.returns-in-Of-Of
returns-in-Of-Of c = let h = c.between_or_empty.ensures in let k = join_is c.in-Of-Of.s c.in-Of-Of.t in grind (arith, to_z-of_z)

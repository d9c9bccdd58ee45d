use Rattle.std.proofs.Common.{arith}
use Rattle.std.proofs.lemmas.Int.{to_z-of_z}
use Rattle.interval_domain.specs.Intervals.IntervalRound.{round_is}
use Rattle.interval_domain.proofs.intervals.intervals.IntervalLattice.round.Goals as goal

pub returns-in-Of : goal.returns-in-Of
returns-in-Of c = let h = c.between_or_empty.ensures in let k = round_is c.args.list.now c.in-Of.s in grind (arith, to_z-of_z)

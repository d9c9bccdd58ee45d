use Rattle.std.proofs.Common.{arith}
use Rattle.fixpoint.specs.Pool.PoolLaws.{SameBut-with_row}
use Rattle.fixpoint.proofs.solver.arrival.round_if.Goals as goal

pub returns-then-rounding-clause-same_but : goal.returns-then-rounding-clause-same_but
returns-then-rounding-clause-same_but g c =
    SameBut-with_row c.args.pool.now c.args.row.now.index c.round_row.new.row c.requires.whole c.requires.taken
    (omega (arith, c.round_row.auto.row, c.row_mut.ensures.len))

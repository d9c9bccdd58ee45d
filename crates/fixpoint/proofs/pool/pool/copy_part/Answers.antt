use Rattle.std.proofs.Common.{arith}
use Rattle.fixpoint.specs.Pool.PoolLaws.{copied_onto_itself}
use Rattle.fixpoint.proofs.pool.pool.copy_part.Goals as goal

pub returns-else-to-from : goal.returns-else-to-from
returns-else-to-from g c = copied_onto_itself c.args.cells.now c.args.from c.args.to c.args.width (omega arith)

use Rattle.std.proofs.Common.{length, subst}
use Rattle.fixpoint.specs.Pool.Pool.{IsWhole}
use Rattle.fixpoint.specs.Pool.PoolLaws.{row_end}
use Rattle.fixpoint.proofs.pool.pool.RowPool.width.Goals as goal

pub returns-clause-whole : goal.returns-clause-whole
returns-clause-whole g c =
    subst (λ p. IsWhole p) c.self.view_is
    (λ r t. row_end c.self.inside.taken.items r c.self.inside.width c.self.inside.stored (length c.self.inside.cells.items) c.self.invariant.1 t c.self.invariant.0)

-- What becomes of a pool that lent a row.
use Rattle.std.specs.Prelude.{ℕ, List}
use Rattle.std.specs.Borrow.{Lends, MutBor, Fml, RattleType, Array}
use Rattle.fixpoint.specs.Pool.Pool.{Pool, with_row}
use Rattle.fixpoint.specs.contracts.pool.pool.RowPool.{the_row}

-- once the borrow ends, the row has the cells that were left in it, and all else is as before
abbrev pub lends_row : (V : RattleType) → MutBor (Pool V.Denot) → ℕ → MutBor (List V.Denot) → Fml
lends_row V p r s = Lends (the_row V) (Array V 0) p s (with_row p.now r)

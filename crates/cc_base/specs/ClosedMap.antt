-- Maps from blocks to rows that no edge takes further, whether or not the rows of heads are rounded.
use Rattle.std.specs.Prelude.{◌≡◌, ◌<◌, ℕ, true, List, length, Option, Some}
use Rattle.cc_base.specs.Lattices.{LatticeOf}
use Rattle.cc_base.specs.Rows.{reached_leq}
use Rattle.cc_base.specs.Machine.{Machine}
use Rattle.cc_base.specs.InductiveMap.{row_at, step, IsOwn}

-- the map holds own rows, the start row is at or below the entry's, and each edge leads to a row at or
-- below its target's: what a map needs to stand for each run
pub record IsClosed {C : Type 0} (o : LatticeOf C) (m : Machine C) (rows : List (Option (List C))) : Type 0 where
  pub size : length rows ≡ m.blocks
  pub own : (b : ℕ) → IsOwn m (row_at rows b)
  pub entry : reached_leq o (Some m.start) (row_at rows 0) ≡ true
  pub edge : (e : ℕ) → e < m.edges → reached_leq o (step m e (row_at rows (m.source e))) (row_at rows (m.target e)) ≡ true

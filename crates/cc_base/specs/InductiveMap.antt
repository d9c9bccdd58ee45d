-- Maps from blocks to rows that no edge takes further.
use Rattle.std.specs.Prelude.{◌≡◌, ◌<◌, ◌+◌, ◌*◌, ℕ, zero, suc, Bool, true, cond, List, length, Option, Some, None, slice_index_or}
use Rattle.cc_base.specs.Lattices.{LatticeOf}
use Rattle.cc_base.specs.Rows.{reached_leq}
use Rattle.cc_base.specs.Machine.{Machine, IsRounded}

-- the row of a block, None if the block is not reached
abbrev pub row_at : {C : Type 0} → List (Option (List C)) → ℕ → Option (List C)
row_at rows b = slice_index_or rows b None

-- what an edge makes of the row of a block
abbrev pub step : {C : Type 0} → Machine C → ℕ → Option (List C) → Option (List C)
step m e None = None
step m e (Some r) = m.through e r

-- an own row, or none
abbrev pub IsOwn : {C : Type 0} → Machine C → Option (List C) → Type 0
IsOwn m None = Unit {0}
IsOwn m (Some r) = m.own r ≡ true

-- a row that equals its rounding, or none
abbrev pub IsRoundedOrNone : {C : Type 0} → LatticeOf C → Machine C → Option (List C) → Type 0
IsRoundedOrNone o m None = Unit {0}
IsRoundedOrNone o m (Some r) = IsRounded o m.list r

-- the map holds own rows, the start row is at or below the entry's, each edge leads to a row at or
-- below its target's, and the rows of heads are rounded
pub record IsInductive {C : Type 0} (o : LatticeOf C) (m : Machine C) (rows : List (Option (List C))) : Type 0 where
  pub size : length rows ≡ m.blocks
  pub own : (b : ℕ) → IsOwn m (row_at rows b)
  pub entry : reached_leq o (Some m.start) (row_at rows 0) ≡ true
  pub edge : (e : ℕ) → e < m.edges → reached_leq o (step m e (row_at rows (m.source e))) (row_at rows (m.target e)) ≡ true
  pub rounded : (b : ℕ) → m.head b ≡ true → IsRoundedOrNone o m (row_at rows b)

-- the map is at or below every inductive map
abbrev pub IsLeast : {C : Type 0} → LatticeOf C → Machine C → List (Option (List C)) → Type 0
IsLeast {C} o m rows = (other : List (Option (List C))) → IsInductive o m other → (b : ℕ) → reached_leq o (row_at rows b) (row_at other b) ≡ true

-- how many of the blocks below a number are heads
abbrev pub heads_below : (ℕ → Bool) → ℕ → ℕ
heads_below head zero = 0
heads_below head (suc n) = heads_below head n + cond (head n) 1 0

-- how many edges a solver follows at most
abbrev pub most_steps : {C : Type 0} → Machine C → ℕ
most_steps m = m.edges * (heads_below m.head m.blocks * (m.height + 1) + 2)

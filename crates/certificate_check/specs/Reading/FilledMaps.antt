-- A map of which the first entries have been filled with rows of a pool.
use Rattle.std.specs.Prelude.{◌≡◌, ◌+◌, ◌≤◌, ℕ, List, Option, Some, None, slice_index_or, count_by}
use Rattle.fixpoint.specs.Pool.Pool.{Pool, row_of, IsTaken, IsWhole, free_count}
use Rattle.fixpoint.specs.declared.pool.row_name.Row.{Row}
use Rattle.fixpoint.specs.Solver.RowMap.{index_at, is_held, IsHeld}

-- the pool has changed from the first to the second by the rows that the map has, and only the first n entries have some
pub record Filled {C : Type 0} (p q : Pool C) (slots : List (Option Row)) (n : ℕ) : Type 0 where
  pub width : q.width ≡ p.width
  pub whole : IsWhole q
  pub held : IsHeld q slots
  pub room : free_count q + count_by is_held slots ≡ free_count p
  -- rows in use are as before, and not of the map
  pub others : (s : ℕ) → IsTaken p s → IsTaken q s × (row_of q s ≡ row_of p s) × ((b : ℕ) → index_at slots b ≡ Some s → ⊥)
  pub few : count_by is_held slots ≤ n
  pub rest : (b : ℕ) → n ≤ b → slice_index_or slots b None ≡ None

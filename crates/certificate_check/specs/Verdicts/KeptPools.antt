-- A pool that was used and is as before.
use Rattle.std.specs.Prelude.{◌≡◌, ℕ}
use Rattle.fixpoint.specs.Pool.Pool.{Pool, row_of, IsTaken, IsWhole, free_count}

-- the rows in use have the same cells, and as many rows are free
pub record Kept {C : Type 0} (p q : Pool C) : Type 0 where
  pub width : q.width ≡ p.width
  pub whole : IsWhole q
  pub room : free_count q ≡ free_count p
  pub others : (s : ℕ) → IsTaken p s → IsTaken q s × (row_of q s ≡ row_of p s)

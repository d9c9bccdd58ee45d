-- Tables that may have something for each number.
use Rattle.std.specs.Prelude.{ℕ, ◌==◌, true, false, Option, Some, None}

-- a table with something else at one number; only what is asked for is computed
abbrev pub set_at : {A : Type 0} → (ℕ → Option A) → ℕ → Option A → ℕ → Option A
set_at f n x m = elim (m == n) [ true ↦ x | false ↦ f m ]

abbrev pub put_at : {A : Type 0} → (ℕ → Option A) → ℕ → A → ℕ → Option A
put_at f n x = set_at f n (Some x)

abbrev pub clear_at : {A : Type 0} → (ℕ → Option A) → ℕ → ℕ → Option A
clear_at f n = set_at f n None

abbrev pub empty_table : {A : Type 0} → ℕ → Option A
empty_table n = None

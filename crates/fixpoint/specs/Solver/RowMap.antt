-- Maps from blocks to rows of a pool.
use Rattle.std.specs.Prelude.{◌≡◌, ◌+◌, ℕ, Bool, true, false, List, map, length, Option, Some, None, slice_index_or, count_by, ◌⊎◌, [], ◌∷◌}
use Rattle.fixpoint.specs.Pool.Pool.{Pool, row_of, IsTaken, IsFree, IsWhole, free_count}
use Rattle.fixpoint.specs.declared.pool.row_name.Row.{Row}
use Rattle.fixpoint.specs.Solver.SolverState.{State}

-- the row that an entry of a map names, its mark and its number in the pool
abbrev pub slot_row : {C : Type 0} → Pool C → Option Row → Option (List C)
slot_row p None = None
slot_row p (Some row) = Some (row_of p row.index)

abbrev pub slot_mark : Option Row → Bool
slot_mark None = false
slot_mark (Some row) = row.marked

abbrev pub slot_index : Option Row → Option ℕ
slot_index None = None
slot_index (Some row) = Some row.index

abbrev pub is_vacant : Option Row → Bool
is_vacant None = true
is_vacant (Some row) = false

abbrev pub is_held : Option Row → Bool
is_held None = false
is_held (Some row) = true

-- the rows of a map
abbrev pub rows_in : {C : Type 0} → Pool C → List (Option Row) → List (Option (List C))
rows_in p slots = map (slot_row p) slots

-- the rows and the marks of a map
abbrev pub state_in : {C : Type 0} → Pool C → List (Option Row) → State C
state_in p slots = record { rows = map (slot_row p) slots; marks = map slot_mark slots }

abbrev pub index_at : List (Option Row) → ℕ → Option ℕ
index_at slots b = slot_index (slice_index_or slots b None)

-- the rows of a map are in use, and no two entries have the same one
pub record IsHeld {C : Type 0} (p : Pool C) (slots : List (Option Row)) : Type 0 where
  pub taken : (b i : ℕ) → index_at slots b ≡ Some i → IsTaken p i
  pub apart : (a b i : ℕ) → index_at slots a ≡ Some i → index_at slots b ≡ Some i → a ≡ b

-- so is one row beside the map
pub record IsHeldBeside {C : Type 0} (p : Pool C) (slots : List (Option Row)) (spare : ℕ) : Type 0 where
  pub whole : IsWhole p
  pub held : IsHeld p slots
  pub in_use : IsTaken p spare
  pub beside : (b : ℕ) → index_at slots b ≡ Some spare → ⊥

-- a map and a row beside it have changed, and the pool with them
pub record Changed {C : Type 0} (p : Pool C) (slots : List (Option Row)) (spare : ℕ) (q : Pool C) (slots' : List (Option Row)) : Type 0 where
  pub width : q.width ≡ p.width
  pub size : length slots' ≡ length slots
  pub held : IsHeldBeside q slots' spare
  -- rows in use that are not of the map are as before, and still not of the map
  pub others : (s : ℕ) → IsTaken p s → (s ≡ spare → ⊥) → ((b : ℕ) → index_at slots b ≡ Some s → ⊥) → IsTaken q s × (row_of q s ≡ row_of p s) × ((b : ℕ) → index_at slots' b ≡ Some s → ⊥)
  -- a row that the map has gained is one free row less
  pub room : free_count q + count_by is_vacant slots ≡ free_count p + count_by is_vacant slots'

-- one entry of a map has changed, and the pool with it
pub record SlotChanged {C : Type 0} (p : Pool C) (slot : Option Row) (q : Pool C) (slot' : Option Row) : Type 0 where
  pub width : q.width ≡ p.width
  pub whole : IsWhole q
  pub others : (s : ℕ) → IsTaken p s → (slot_index slot ≡ Some s → ⊥) → IsTaken q s × (row_of q s ≡ row_of p s)
  pub index : (i : ℕ) → slot_index slot' ≡ Some i → IsTaken q i × ((slot_index slot ≡ Some i) ⊎ IsFree p i)
  pub room : free_count q + count_by is_vacant (slot ∷ []) ≡ free_count p + count_by is_vacant (slot' ∷ [])

-- the entry without its mark
abbrev pub unmarked : Option Row → Option Row
unmarked None = None
unmarked (Some row) = Some (record row { marked = false })

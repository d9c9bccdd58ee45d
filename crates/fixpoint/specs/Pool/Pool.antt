-- A pool of rows: its width, which rows are in use, and the cells of the rows one after another.
use Rattle.std.specs.Prelude.{◌≡◌, ◌+◌, ◌-◌, ◌*◌, ◌≤◌, ℕ, Bool, true, false, not, List, [], ◌++◌, length, take, drop, slice_get, slice_set, count_by, refl, Some}
use Rattle.std.specs.Coded.{Coded, code_by, coded×, coded_ℕ, coded_bool, coded_list}
use Rattle.std.proofs.Common.{replicate}

pub record Pool (V : Type 0) : Type 0 where
  -- the number of cells of a row
  pub width : ℕ
  -- for each row, whether it is in use
  pub taken : List Bool
  -- the cells of row 0, then those of row 1, and so on, as far as rows have been in use
  pub cells : List V
  -- what a row is filled with that is in use for the first time
  pub fill : V

abbrev pub pool_code : {V : Type 0} → Coded V → Coded (Pool V)
pool_code {V} code =
    code_by (ℕ × (List Bool × (List V × V))) (coded× coded_ℕ (coded× (coded_list coded_bool) (coded× (coded_list code) code)))
    (λ p. (p.width, (p.taken, (p.cells, p.fill)))) (λ t. record { width = t.0; taken = t.1.0; cells = t.1.1.0; fill = t.1.1.1 }) (λ _. refl)

-- the cells of a row
abbrev pub row_of : {V : Type 0} → Pool V → ℕ → List V
row_of p r = take p.width (drop (r * p.width) p.cells)

-- the pool with other cells from the row's first one on, as far as the pool reaches
abbrev pub with_row : {V : Type 0} → Pool V → ℕ → List V → Pool V
with_row p r ws = record p { cells = take (length p.cells) (take (r * p.width) p.cells ++ (ws ++ drop (length ws) (drop (r * p.width) p.cells))) }

-- the pool with the row in use, or free
abbrev pub with_mark : {V : Type 0} → Pool V → ℕ → Bool → Pool V
with_mark p r b = record p { taken = slice_set p.taken r b }

-- the pool with the row in use, filled up to its end where its cells have not been there
abbrev pub with_taken : {V : Type 0} → Pool V → ℕ → Pool V
with_taken p r = record p { taken = slice_set p.taken r true; cells = p.cells ++ replicate (r * p.width + p.width - length p.cells) p.fill }

abbrev pub IsTaken : {V : Type 0} → Pool V → ℕ → Type 0
IsTaken p r = slice_get p.taken r ≡ Some true

abbrev pub IsFree : {V : Type 0} → Pool V → ℕ → Type 0
IsFree p r = slice_get p.taken r ≡ Some false

-- how many rows are free
abbrev pub free_count : {V : Type 0} → Pool V → ℕ
free_count p = count_by not p.taken

-- the cells of each row in use are there
abbrev pub IsWhole : {V : Type 0} → Pool V → Type 0
IsWhole p = (r : ℕ) → IsTaken p r → r * p.width + p.width ≤ length p.cells

-- a pool of rows of which none has been in use
abbrev pub fresh_pool : {V : Type 0} → ℕ → ℕ → V → Pool V
fresh_pool rows width fill = record { width = width; taken = replicate rows false; cells = []; fill = fill }

-- the second pool has the width, the rows in use and their cells as the first, but for the cells of one row
pub record SameBut {V : Type 0} (p q : Pool V) (r : ℕ) : Type 0 where
  pub width : q.width ≡ p.width
  pub taken : q.taken ≡ p.taken
  pub cells : length p.cells ≤ length q.cells
  pub others : (s : ℕ) → (s ≡ r → ⊥) → IsTaken p s → row_of q s ≡ row_of p s

-- Rows of lattice values: their order, their joins and their rounding, cell by cell.
use Rattle.std.specs.Prelude.{ℤ, Bool, true, false, ◌&&◌, cond, List, [], ◌∷◌, Option, Some, None}
use Rattle.cc_base.specs.Lattices.{LatticeOf}

-- each cell is at or below the cell at its place, and there are as many
abbrev pub row_leq : {C : Type 0} → LatticeOf C → List C → List C → Bool
row_leq o [] [] = true
row_leq o [] (y ∷ ys) = false
row_leq o (x ∷ xs) [] = false
row_leq o (x ∷ xs) (y ∷ ys) = o.leq x y && row_leq o xs ys

-- the joins of the cells at each place that both rows have
abbrev pub row_join : {C : Type 0} → LatticeOf C → List C → List C → List C
row_join o [] ys = []
row_join o (x ∷ xs) [] = []
row_join o (x ∷ xs) (y ∷ ys) = o.join x y ∷ row_join o xs ys

-- each cell rounded to the list
abbrev pub row_round : {C : Type 0} → LatticeOf C → List ℤ → List C → List C
row_round o list [] = []
row_round o list (x ∷ xs) = o.round list x ∷ row_round o list xs

-- a row rounded to the list, or as it is
abbrev pub row_rounded_if : {C : Type 0} → LatticeOf C → List ℤ → Bool → List C → List C
row_rounded_if o list true r = row_round o list r
row_rounded_if o list false r = r

-- a cell rounded to the list, or as it is
abbrev pub rounded_if : {C : Type 0} → LatticeOf C → List ℤ → Bool → C → C
rounded_if o list true x = o.round list x
rounded_if o list false x = x

-- what a cell becomes when another one arrives: the same if it is at or above that one, else their
-- join, rounded where that is asked for
abbrev pub absorbed : {C : Type 0} → LatticeOf C → List ℤ → Bool → C → C → C
absorbed o list rounding old with = cond (o.leq with old) old (rounded_if o list rounding (o.join old with))

-- what a row becomes when another one of the same length arrives
abbrev pub row_absorbed : {C : Type 0} → LatticeOf C → List ℤ → Bool → List C → List C → List C
row_absorbed o list rounding [] ys = []
row_absorbed o list rounding (x ∷ xs) [] = x ∷ xs
row_absorbed o list rounding (x ∷ xs) (y ∷ ys) = absorbed o list rounding x y ∷ row_absorbed o list rounding xs ys

-- the order of rows, with a place that is not reached below all rows
abbrev pub reached_leq : {C : Type 0} → LatticeOf C → Option (List C) → Option (List C) → Bool
reached_leq o None b = true
reached_leq o (Some x) None = false
reached_leq o (Some x) (Some y) = row_leq o x y

-- Rows in order, cell by cell.
use Rattle.std.specs.Prelude.{◌≡◌, ℕ, zero, suc, true, List, [], ◌∷◌, set, slice_get, refl}
use Rattle.std.specs.Option.{unwrap_or}
use Rattle.std.proofs.lemmas.Bool.{and_parts, and_from}
use Rattle.cc_base.specs.Lattices.{LatticeOf}
use Rattle.cc_base.specs.Rows.{row_leq}
use Rattle.value_domain.specs.declared.values.row_cells.Cell.{Cell}
use Rattle.value_domain.specs.Values.Cells.{cell_lattice, cell_leq}
use Rattle.store_cells.specs.RowPositions.{cell_at}

module _ {C : Type 0} (o : LatticeOf C) where
  pub set_monotone : (xs ys : List C) (i : ℕ) (x y : C) → row_leq o xs ys ≡ true → o.leq x y ≡ true → row_leq o (set xs i x) (set ys i y) ≡ true
  set_monotone [] [] i x y h k = refl
  set_monotone [] (b ∷ ys) i x y h k = cc
  set_monotone (a ∷ xs) [] i x y h k = cc
  set_monotone (a ∷ xs) (b ∷ ys) zero x y h k = and_from _ _ k (and_parts (o.leq a b) (row_leq o xs ys) h).1
  set_monotone (a ∷ xs) (b ∷ ys) (suc i) x y h k =
      let p = and_parts (o.leq a b) (row_leq o xs ys) h in and_from _ _ p.0 (set_monotone xs ys i x y p.1 k)

  -- a row that grows at one place
  pub set_above : (xs ys : List C) (i : ℕ) (d y : C) → row_leq o xs ys ≡ true → o.leq (unwrap_or (slice_get xs i) d) y ≡ true → row_leq o xs (set ys i y) ≡ true
  set_above [] [] i d y h k = refl
  set_above [] (b ∷ ys) i d y h k = cc
  set_above (a ∷ xs) [] i d y h k = cc
  set_above (a ∷ xs) (b ∷ ys) zero d y h k = and_from _ _ k (and_parts (o.leq a b) (row_leq o xs ys) h).1
  set_above (a ∷ xs) (b ∷ ys) (suc i) d y h k =
      let p = and_parts (o.leq a b) (row_leq o xs ys) h in and_from _ _ p.0 (set_above xs ys i d y p.1 k)

  -- a row that shrinks at one place
  pub set_below : (xs ys : List C) (i : ℕ) (d x : C) → row_leq o xs ys ≡ true → o.leq x (unwrap_or (slice_get ys i) d) ≡ true → row_leq o (set xs i x) ys ≡ true
  set_below [] [] i d x h k = refl
  set_below [] (b ∷ ys) i d x h k = cc
  set_below (a ∷ xs) [] i d x h k = cc
  set_below (a ∷ xs) (b ∷ ys) zero d x h k = and_from _ _ k (and_parts (o.leq a b) (row_leq o xs ys) h).1
  set_below (a ∷ xs) (b ∷ ys) (suc i) d x h k =
      let p = and_parts (o.leq a b) (row_leq o xs ys) h in and_from _ _ p.0 (set_below xs ys i d x p.1 k)

module _ {I : Type 0} (l : LatticeOf I) where
  pub at_monotone : (xs ys : List (Cell I)) (i : ℕ) → row_leq (cell_lattice l) xs ys ≡ true → cell_leq l (cell_at xs i) (cell_at ys i) ≡ true
  at_monotone [] [] i h = refl
  at_monotone [] (b ∷ ys) i h = cc
  at_monotone (a ∷ xs) [] i h = cc
  at_monotone (a ∷ xs) (b ∷ ys) zero h = (and_parts (cell_leq l a b) (row_leq (cell_lattice l) xs ys) h).0
  at_monotone (a ∷ xs) (b ∷ ys) (suc i) h = at_monotone xs ys i (and_parts (cell_leq l a b) (row_leq (cell_lattice l) xs ys) h).1

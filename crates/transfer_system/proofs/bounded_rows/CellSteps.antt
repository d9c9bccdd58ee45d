-- One more cell of a row is fitted.
use Rattle.std.proofs.Common.{◌≡◌, ◌∙◌, ◌++◌, ◌+◌, ◌<◌, ℕ, zero, suc, ℤ, List, [], ◌∷◌, length, take, drop, slice_set, get_or, append_assoc, refl, sym, ap, arith}
use Rattle.std.proofs.Math.Seq.{take-suc-set}
use Rattle.std.proofs.lemmas.List.{drop-set-lt}
use Rattle.cc_base.specs.Lattices.{LatticeOf}
use Rattle.cc_base.specs.IntegerDomains.{IntegersOf}
use Rattle.value_domain.specs.declared.values.row_cells.Cell.{Cell}
use Rattle.transfer_system.specs.declared.bounded_rows.cell_kinds.CellKind.{CellKind}
use Rattle.transfer_system.specs.declared.bounded_rows.own_cells.Reach.{Reach}
use Rattle.transfer_system.specs.BoundedRows.CellKinds.{first_kind, kinds_behind}
use Rattle.transfer_system.specs.BoundedRows.FittedRows.{cell_fit, cells_fit}

one_more : (i : ℕ) → suc i ≡ i + 1
one_more i = omega arith

drop_here : {C : Type 0} (xs : List C) (i : ℕ) (x : C) → i < length xs → x ≡ get_or xs i x → drop i xs ≡ x ∷ drop (suc i) xs
drop_here [] i x h e = absurd (omega arith)
drop_here (c ∷ cs) zero x h e = ap (λ z. z ∷ cs) (sym e)
drop_here (c ∷ cs) (suc i) x h e = drop_here cs i x (omega arith) e

drop_at : {C : Type 0} (xs : List C) (i : ℕ) (x : C) → i < length xs → x ≡ get_or xs i x → drop i xs ≡ x ∷ drop (i + 1) xs
drop_at xs i x h e = drop_here xs i x h e ∙ ap (λ k. x ∷ drop k xs) (one_more i)

drop_one : {C : Type 0} (xs : List C) (i : ℕ) → drop (suc i) xs ≡ drop 1 (drop i xs)
drop_one [] zero = refl
drop_one [] (suc i) = refl
drop_one (c ∷ cs) zero = refl
drop_one (c ∷ cs) (suc i) = drop_one cs i

drop_more : {C : Type 0} (xs ys : List C) (i : ℕ) → drop i xs ≡ drop i ys → drop (i + 1) xs ≡ drop (i + 1) ys
drop_more xs ys i e = ap (λ k. drop k xs) (sym (one_more i)) ∙ drop_one xs i ∙ ap (drop 1) e ∙ sym (drop_one ys i) ∙ ap (λ k. drop k ys) (one_more i)

-- the rest of a row stays where its first cell is written
pub rest_stays : {C : Type 0} (xs ys : List C) (i : ℕ) (y : C) → drop i xs ≡ drop i ys → drop (i + 1) (slice_set xs i y) ≡ drop (i + 1) ys
rest_stays xs ys i y e = drop-set-lt (i + 1) xs i y (omega arith) ∙ drop_more xs ys i e

module _ {I : Type 0} (l : LatticeOf I) (n : IntegersOf I) (list : List ℤ) (r : Reach I) where
  pub fit_step : (ks ks' : List CellKind) (row old whole : List (Cell I)) (i : ℕ) (x y : Cell I) → i < length row → x ≡ get_or row i x → drop i row ≡ drop i old → y ≡ cell_fit l n list r (first_kind ks) (get_or row i x) → ks' ≡ kinds_behind ks
      → take i row ++ cells_fit l n list r ks (drop i old) ≡ whole → take (i + 1) (slice_set row i y) ++ cells_fit l n list r ks' (drop (i + 1) old) ≡ whole
  fit_step ks ks' row old whole i x y h here same fitted behind done =
      let shape : drop i old ≡ x ∷ drop (i + 1) old = sym same ∙ drop_at row i x h here ∙ ap (λ z. x ∷ z) (drop_more row old i same) in
      let made : y ≡ cell_fit l n list r (first_kind ks) x = fitted ∙ ap (cell_fit l n list r (first_kind ks)) (sym here) in
      let next : (y ∷ cells_fit l n list r ks' (drop (i + 1) old)) ≡ cells_fit l n list r ks (drop i old) = (λ j. made j ∷ cells_fit l n list r (behind j) (drop (i + 1) old)) ∙ ap (cells_fit l n list r ks) (sym shape) in
      ap (λ k. take k (slice_set row i y) ++ cells_fit l n list r ks' (drop (i + 1) old)) (sym (one_more i))
      ∙ ap (λ z. z ++ cells_fit l n list r ks' (drop (i + 1) old)) (take-suc-set row i y h)
      ∙ append_assoc (take i row) (y ∷ []) (cells_fit l n list r ks' (drop (i + 1) old))
      ∙ ap (λ z. take i row ++ z) next
      ∙ done

-- One cell that is written at many positions.
use Rattle.std.proofs.Common.{◌≡◌, ℕ, zero, suc, ◌<◌, List, length, arith, subst, sym, refl, ap, ◌∙◌, inl, inr}
use Rattle.std.specs.Prelude.{set}
use Rattle.std.specs.Option.{unwrap_or}
use Rattle.std.proofs.lemmas.Bool.{cases_eq}
use Rattle.std.proofs.lemmas.List.{length-set}
use Rattle.value_domain.specs.declared.values.row_cells.Cell.{Cell}
use Rattle.value_domain.specs.declared.values.row_cells.Cell.TheVariants.{Nothing}
use Rattle.store_cells.specs.RowPositions.{cell_at}
use Rattle.store_cells.specs.Walks.{turns}
use Rattle.store_sound.proofs.operations.Only.{cell_put}
use Rattle.store_sound.proofs.operations.Slices.{get_set_other}

module _ {I : Type 0} (position : ℕ → ℕ) (c : Cell I) where
  -- the cell at so many positions
  abbrev pub all_set : ℕ → List (Cell I) → List (Cell I)
  all_set count row = turns (λ k r. set r (position k) c) count row

  pub set_long : (count : ℕ) (row : List (Cell I)) → length (all_set count row) ≡ length row
  set_long zero row = refl
  set_long (suc count) row = length-set (all_set count row) (position count) c ∙ set_long count row

  pub set_keeps : (count : ℕ) (row : List (Cell I)) (at : ℕ) → ((k : ℕ) → k < count → position k ≡ at → ⊥) → cell_at (all_set count row) at ≡ cell_at row at
  set_keeps zero row at h = refl
  set_keeps (suc count) row at h =
      ap (λ x. unwrap_or x Nothing) (get_set_other (all_set count row) (position count) at c (λ e. h count (omega arith) (sym e)))
      ∙ set_keeps count row at (λ k small e. h k (omega (arith, small)) e)

  pub set_puts : (count : ℕ) (row : List (Cell I)) (j : ℕ) → j < count → position j < length row → cell_at (all_set count row) (position j) ≡ c
  set_puts zero row j h k = absurd (omega (arith, h))
  set_puts (suc count) row j h k = elim (cases_eq (position j) (position count)) [
    | inl e ↦ (let long = set_long count row in
        subst (λ z. cell_at (set (all_set count row) (position count) c) z ≡ c) (sym e) (cell_put (all_set count row) (position count) c (omega (arith, long, k, e))))
    | inr n ↦ ap (λ x. unwrap_or x Nothing) (get_set_other (all_set count row) (position count) (position j) c n)
        ∙ set_puts count row j (let other : j ≡ count → ⊥ = λ e. n (ap position e) in below j count h other) k
  ]
    where
      below : (j count : ℕ) → j < suc count → (j ≡ count → ⊥) → j < count
      below j count h n = elim (cases_eq j count) [ inl e ↦ absurd (n e) | inr e ↦ omega (arith, h, e) ]

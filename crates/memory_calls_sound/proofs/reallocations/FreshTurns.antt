-- One turn of a walk that writes within a range of a row: over a row that is the same outside of the range.
use Rattle.std.proofs.Common.{◌≡◌, ℕ, zero, suc, ◌+◌, ◌<◌, ◌≤◌, List, [], ◌∷◌, Some, length, arith, sym, refl, ap, ◌∙◌, inl, inr}
use Rattle.std.specs.Prelude.{slice_get}
use Rattle.std.proofs.lemmas.Bool.{cases_eq}
use Rattle.value_domain.specs.declared.values.row_cells.Cell.{Cell}
use Rattle.store_cells.specs.RowPositions.{cell_at}
use Rattle.store_cells.specs.Walks.{walk, turns}
use Rattle.store_sound.proofs.operations.Only.{Only, Leaves}
use Rattle.store_sound.proofs.regions.Layers.{only_turns}

module _ {I : Type 0} where
  pub record TurnedOver (lo hi x : ℕ) (g : List (Cell I) → List (Cell I)) (row after : List (Cell I)) : Type 0 where
    pub before : List (Cell I)
    pub long : length before ≡ length row
    pub outside : (at : ℕ) → (lo ≤ at → at < hi → ⊥) → cell_at before at ≡ cell_at row at
    pub turn : cell_at after x ≡ cell_at (g before) x

module _ {I K : Type 0} (f : K → ℕ → List (Cell I) → List (Cell I)) where
  leaves_over : (x at : ℕ) (ks : List K) → ((j a : ℕ) (k : K) → slice_get ks j ≡ Some k → a ≡ at + j → Leaves x (f k a)) → (row : List (Cell I)) → cell_at (walk f at ks row) x ≡ cell_at row x
  leaves_over x at [] h row = refl
  leaves_over x at (y ∷ ys) h row =
      leaves_over x (at + 1) ys (λ j a k e d. h (suc j) a k e (omega (arith, d))) (f y at row) ∙ (h 0 at y refl (omega arith)).keeps row

  pub walk_over : (lo hi x at : ℕ) (ks : List K) (j a : ℕ) (k : K) → slice_get ks j ≡ Some k → a ≡ at + j → ((i b : ℕ) (other : K) → slice_get ks i ≡ Some other → b ≡ at + i → Only lo hi (f other b)) → ((i b : ℕ) (other : K) → slice_get ks i ≡ Some other → b ≡ at + i → (i ≡ j → ⊥) → Leaves x (f other b))
      → (row : List (Cell I)) → TurnedOver lo hi x (f k a) row (walk f at ks row)
  walk_over lo hi x at [] j a k e d only leaves row = cc
  walk_over lo hi x at (y ∷ ys) zero a k e d only leaves row =
      let w : y ≡ k = cc in
      let v : at ≡ a = omega (arith, d) in
      record {
        before = row;
        long = refl;
        outside = λ p h. refl;
        turn = leaves_over x (at + 1) ys (λ i b other u t. leaves (suc i) b other u (omega (arith, t)) (λ (z : suc i ≡ 0). cc)) (f y at row) ∙ (ap (λ z. cell_at (f z at row) x) w ∙ ap (λ z. cell_at (f k z row) x) v);
      }
  walk_over lo hi x at (y ∷ ys) (suc j) a k e d only leaves row =
      let first = only 0 at y refl (omega arith) in
      let r = walk_over lo hi x (at + 1) ys j a k e (omega (arith, d)) (λ i b other u t. only (suc i) b other u (omega (arith, t))) (λ i b other u t ne. leaves (suc i) b other u (omega (arith, t)) (λ (z : suc i ≡ suc j). ne (omega (arith, z)))) (f y at row) in
      record { before = r.before; long = r.long ∙ first.long row; outside = λ p h. r.outside p h ∙ first.keeps row p h; turn = r.turn }

pub turns_over : {I : Type 0} (f : ℕ → List (Cell I) → List (Cell I)) (lo hi x count j : ℕ) → j < count → ((k : ℕ) → k < count → Only lo hi (f k)) → ((k : ℕ) → k < count → (k ≡ j → ⊥) → Leaves x (f k)) → (row : List (Cell I)) → TurnedOver lo hi x (f j) row (turns f count row)
turns_over f lo hi x zero j less only leaves row = absurd (omega (arith, less))
turns_over f lo hi x (suc count) j less only leaves row = elim (cases_eq j count) [
  | inl e ↦ (
      let all = only_turns f lo hi count (λ k h. only k (omega (arith, h))) in
      record { before = turns f count row; long = all.long row; outside = λ p h. all.keeps row p h; turn = ap (λ z. cell_at (f z (turns f count row)) x) (sym e) })
  | inr ne ↦ (
      let r = turns_over f lo hi x count j (omega (arith, less, ne)) (λ k h. only k (omega (arith, h))) (λ k h n. leaves k (omega (arith, h)) n) row in
      let last = leaves count (omega arith) (λ (z : count ≡ j). ne (sym z)) in
      record { before = r.before; long = r.long; outside = r.outside; turn = last.keeps (turns f count row) ∙ r.turn })
]

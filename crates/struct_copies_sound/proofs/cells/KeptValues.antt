-- What holds of the value at a position of a row, where other values are joined and written.
use Rattle.std.proofs.Common.{◌≡◌, ℕ, zero, suc, ◌+◌, ◌<◌, Bool, true, false, Some, List, [], ◌∷◌, length, arith, subst, sym, refl, ap, ◌∙◌, inl, inr}
use Rattle.std.specs.Prelude.{slice_get, set, ℤ}
use Rattle.std.proofs.lemmas.Bool.{cases_eq}
use Rattle.std.proofs.lemmas.List.{length-set}
use Rattle.cc_base.specs.Lattices.{LatticeOf, OrderLaws}
use Rattle.cc_base.specs.IntegerDomains.{IntegersOf, BoundLaws}
use Rattle.c_layout.specs.Models.{lp64}
use Rattle.value_domain.specs.Values.Values.{value_lattice, value_order}
use Rattle.value_domain.specs.declared.values.values.Value as values
use Rattle.value_domain.specs.declared.values.row_cells.Cell.{Cell}
use Rattle.value_domain.specs.declared.values.row_cells.Cell.TheVariants.{Value}
use Rattle.store_cells.specs.NearValues.{near_value}
use Rattle.store_cells.specs.RowPositions.{value_in, value_at, join_value, write_value}
use Rattle.store_cells.specs.Walks.{walk}
use Rattle.store_sound.proofs.operations.Near.{IsNearValue, near_is, value_at_near, join_near}
use Rattle.store_sound.proofs.operations.Only.{only_put, cell_put}
use Rattle.store_sound.proofs.operations.StoreValues.{same_value, join_is}

-- ---- walks whose turns have their place in the list

module _ {K S : Type 0} (Q : S → Type 0) (f : K → ℕ → S → S) where
  pub each_keeps : (at : ℕ) (ks : List K) → ((j a : ℕ) (k : K) → slice_get ks j ≡ Some k → a ≡ at + j → (s : S) → Q s → Q (f k a s)) → (s : S) → Q s → Q (walk f at ks s)
  each_keeps at [] g s h = h
  each_keeps at (k ∷ ks) g s h = each_keeps (at + 1) ks (λ j a x e d. g (suc j) a x e (omega (arith, d))) (f k at s) (g 0 at k refl (omega arith) s h)

-- what one turn makes of what was there before it, the turns before keep the one and those behind it the other
module _ {K S : Type 0} (Before After : S → Type 0) (f : K → ℕ → S → S) where
  pub one_makes : (at : ℕ) (ks : List K) (i : ℕ) (x : K) → slice_get ks i ≡ Some x
      → ((j a : ℕ) (k : K) → slice_get ks j ≡ Some k → a ≡ at + j → (s : S) → Before s → Before (f k a s))
      → ((j a : ℕ) (k : K) → slice_get ks j ≡ Some k → a ≡ at + j → (j ≡ i → ⊥) → (s : S) → After s → After (f k a s))
      → ((a : ℕ) → a ≡ at + i → (s : S) → Before s → After (f x a s))
      → (s : S) → Before s → After (walk f at ks s)
  one_makes at [] i x e g h m s b = cc
  one_makes at (k ∷ ks) zero x e g h m s b =
      let same : k ≡ x = cc in
      each_keeps After f (at + 1) ks (λ j a y d t. h (suc j) a y d (omega (arith, t)) (λ (z : suc j ≡ 0). cc)) (f k at s) (subst (λ y. After (f y at s)) (sym same) (m at (omega arith) s b))
  one_makes at (k ∷ ks) (suc i) x e g h m s b =
      one_makes (at + 1) ks i x e (λ j a y d t. g (suc j) a y d (omega (arith, t)))
      (λ j a y d t ne. h (suc j) a y d (omega (arith, t)) (λ (z : suc j ≡ suc i). ne (omega (arith, z))))
      (λ a t. m a (omega (arith, t))) (f k at s) (g 0 at k refl (omega arith) s b)

-- ---- a position

module _ {I : Type 0} {l : LatticeOf I} {n : IntegersOf I} {gamma : I → ℤ → Type 0} (o : OrderLaws l) (q : BoundLaws l n gamma) {P : values.Value I → Type 0} (up : (x y : values.Value I) → (value_lattice l).leq x y ≡ true → P x → P y) (p size : ℕ) (there : p < size) where
  -- a row of the size, of whose value at the position it holds
  pub record Has (row : List (Cell I)) : Type 0 where
    pub long : length row ≡ size
    pub good : P (value_at l n row p)

  elsewhere : (row : List (Cell I)) (at : ℕ) (v : values.Value I) → (p ≡ at → ⊥) → Has row → Has (set row at (Value v))
  elsewhere row at v other h = record {
    long = length-set row at (Value v) ∙ h.long;
    good = subst P (sym (same_value l n row (set row at (Value v)) p ((only_put at (at + 1) at (λ r. Value v) (omega arith) (omega arith)).keeps row p (λ a b. other (omega (arith, a, b)))))) h.good;
  }

  joined_has : (row : List (Cell I)) (v : values.Value I) → IsNearValue l n v → length row ≡ size → P ((value_lattice l).join (value_at l n row p) v) → P (value_at l n (join_value l n row p v) p)
  joined_has row v near long h =
      let there_too : p < length row = omega (arith, long, there) in
      subst P (sym (join_is l n lp64 row p v there_too ∙ near_is o q _ (join_near o q (value_at l n row p) v (value_at_near o q row p) near))) h

  join_long : (row : List (Cell I)) (at : ℕ) (v : values.Value I) → length (join_value l n row at v) ≡ length row
  unfolding join_value
  join_long row at v = length-set row at (Value ((value_lattice l).join (value_at l n row at) v))

  join_elsewhere : (row : List (Cell I)) (at : ℕ) (v : values.Value I) → (p ≡ at → ⊥) → Has row → Has (join_value l n row at v)
  unfolding join_value
  join_elsewhere row at v other h = elsewhere row at ((value_lattice l).join (value_at l n row at) v) other h

  pub join_keeps : (row : List (Cell I)) (at : ℕ) (v : values.Value I) → IsNearValue l n v → Has row → Has (join_value l n row at v)
  join_keeps row at v near h = elim (cases_eq p at) [
    | inr other ↦ join_elsewhere row at v other h
    | inl e ↦ record {
      long = join_long row at v ∙ h.long;
      good = subst (λ z. P (value_at l n (join_value l n row z v) p)) e (joined_has row v near h.long (up _ _ ((value_order o).join_left (value_at l n row p) v) h.good));
    }
  ]

  pub join_makes : (row : List (Cell I)) (v : values.Value I) → IsNearValue l n v → P v → length row ≡ size → Has (join_value l n row p v)
  join_makes row v near h long = record {
    long = join_long row p v ∙ long;
    good = joined_has row v near long (up _ _ ((value_order o).join_right (value_at l n row p) v) h);
  }

  pub write_keeps : (row : List (Cell I)) (at : ℕ) (v : values.Value I) (strong : Bool) → IsNearValue l n v → (strong ≡ true → at ≡ p → ⊥) → Has row → Has (write_value l n row at v strong)
  unfolding write_value
  write_keeps row at v true near other h = elsewhere row at v (λ e. other refl (sym e)) h
  write_keeps row at v false near other h = join_keeps row at v near h

  value_put : (r : List (Cell I)) (x : values.Value I) → p < length r → value_at l n (set r p (Value x)) p ≡ near_value l n x
  unfolding value_at
  value_put r x h = ap (λ c. near_value l n (value_in l c)) (cell_put r p (Value x) h)

  pub write_makes : (row : List (Cell I)) (v : values.Value I) (strong : Bool) → IsNearValue l n v → P v → length row ≡ size → Has (write_value l n row p v strong)
  unfolding write_value
  write_makes row v true near h long = record {
    long = length-set row p (Value v) ∙ long;
    good = subst P (sym (value_put row v (omega (arith, long, there)) ∙ near_is o q v near)) h;
  }
  write_makes row v false near h long = join_makes row v near h long

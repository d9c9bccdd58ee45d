-- Walks of which one turn alone does something, or none.
use Rattle.std.proofs.Common.{◌≡◌, ℕ, zero, suc, ◌+◌, Some, List, [], ◌∷◌, arith, refl, ap, ◌∙◌}
use Rattle.std.specs.Prelude.{slice_get}
use Rattle.store_cells.specs.Walks.{walk}

module _ {K S : Type 0} (f : K → ℕ → S → S) where
  pub walk_idle : (at : ℕ) (ks : List K) (s : S) → ((j a : ℕ) (k : K) → slice_get ks j ≡ Some k → a ≡ at + j → f k a s ≡ s) → walk f at ks s ≡ s
  walk_idle at [] s h = refl
  walk_idle at (x ∷ xs) s h = ap (walk f (at + 1) xs) (h 0 at x refl (omega arith)) ∙ walk_idle (at + 1) xs s (λ j a k e d. h (suc j) a k e (omega arith))

  -- all turns but one leave each state as it is
  pub walk_once : (at : ℕ) (ks : List K) (s : S) (j a : ℕ) (k : K) → slice_get ks j ≡ Some k → a ≡ at + j → ((i b : ℕ) (other : K) → slice_get ks i ≡ Some other → b ≡ at + i → (i ≡ j → ⊥) → (t : S) → f other b t ≡ t) → walk f at ks s ≡ f k a s
  walk_once at [] s j a k e d h = cc
  walk_once at (x ∷ xs) s zero a k e d h =
      let w : x ≡ k = cc in
      let v : at ≡ a = omega arith in
      walk_idle (at + 1) xs (f x at s) (λ i b other u t. h (suc i) b other u (omega arith) (λ (z : suc i ≡ 0). cc) (f x at s))
      ∙ (ap (λ y. f y at s) w ∙ ap (λ y. f k y s) v)
  walk_once at (x ∷ xs) s (suc j) a k e d h =
      ap (walk f (at + 1) xs) (h 0 at x refl (omega arith) (λ (z : 0 ≡ suc j). cc) s)
      ∙ walk_once (at + 1) xs s j a k e (omega arith) (λ i b other u t n. h (suc i) b other u (omega arith) (λ (z : suc i ≡ suc j). n (omega arith)))

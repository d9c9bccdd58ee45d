-- What holds after a walk.
use Rattle.std.proofs.Common.{◌≡◌, ℕ, zero, suc, ◌+◌, ◌<◌, List, [], ◌∷◌, Some, arith, subst, sym, inl, inr}
use Rattle.std.specs.Prelude.{slice_get}
use Rattle.std.proofs.lemmas.Bool.{cases_eq}
use Rattle.store_cells.specs.Walks.{walk, turns}

module _ {K S : Type 0} (Q : S → Type 0) (f : K → ℕ → S → S) where
  pub walk_keeps : ((k : K) (at : ℕ) (s : S) → Q s → Q (f k at s)) → (at : ℕ) (ks : List K) (s : S) → Q s → Q (walk f at ks s)
  walk_keeps g at [] s h = h
  walk_keeps g at (k ∷ ks) s h = walk_keeps g (at + 1) ks (f k at s) (g k at s h)

  -- what one turn brings and all keep
  pub walk_meets : ((k : K) (at : ℕ) (s : S) → Q s → Q (f k at s)) → (at : ℕ) (ks : List K) (s : S) (j a : ℕ) (k : K) → slice_get ks j ≡ Some k → a ≡ at + j → ((t : S) → Q (f k a t)) → Q (walk f at ks s)
  walk_meets g at [] s j a k e n h = cc
  walk_meets g at (x ∷ xs) s zero a k e n h =
      let p : x ≡ k = cc in
      let q : a ≡ at = omega arith in
      walk_keeps g (at + 1) xs (f x at s) (subst (λ b. Q (f x b s)) q (subst (λ y. Q (f y a s)) (sym p) (h s)))
  walk_meets g at (x ∷ xs) s (suc j) a k e n h = walk_meets g (at + 1) xs (f x at s) j a k e (omega arith) h

module _ {S : Type 0} (Q : S → Type 0) (f : ℕ → S → S) where
  pub turns_keep : ((at : ℕ) (s : S) → Q s → Q (f at s)) → (count : ℕ) (s : S) → Q s → Q (turns f count s)
  turns_keep g zero s h = h
  turns_keep g (suc count) s h = g count (turns f count s) (turns_keep g count s h)

  pub turns_meet : ((at : ℕ) (s : S) → Q s → Q (f at s)) → (count : ℕ) (s : S) (j : ℕ) → j < count → ((t : S) → Q (f j t)) → Q (turns f count s)
  turns_meet g zero s j h k = absurd (omega arith)
  turns_meet g (suc count) s j h k = elim (cases_eq j count) [
    | inl e ↦ subst (λ z. Q (f z (turns f count s))) e (k (turns f count s))
    | inr e ↦ g count (turns f count s) (turns_meet g count s j (omega arith) k)
  ]

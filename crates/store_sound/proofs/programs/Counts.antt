-- What is counted once at most.
use Rattle.std.proofs.Common.{◌≡◌, ℕ, zero, suc, ◌≤◌, Bool, true, cond, Some, List, [], ◌∷◌, arith, refl, inl, inr}
use Rattle.std.specs.Prelude.{slice_get, count_by}
use Rattle.std.proofs.lemmas.Bool.{cases_Bool}
use Rattle.std.proofs.lemmas.List.Sums.{sum_by-cons}
use Rattle.store_sound.proofs.operations.Classes.{count_some}

module _ {X : Type 0} (p : X → Bool) where
  none_among : (xs : List X) (n : ℕ) → count_by p xs ≡ n → ((j : ℕ) (y : X) → slice_get xs j ≡ Some y → p y ≡ true → ⊥) → n ≡ 0
  none_among xs zero e h = refl
  none_among xs (suc n) e h = let r = count_some p xs n e in absurd (h r.0 r.1 r.2 r.3)

  -- where no two places have what is counted
  pub at_most_one : (xs : List X) → ((i k : ℕ) (a b : X) → slice_get xs i ≡ Some a → slice_get xs k ≡ Some b → p a ≡ true → p b ≡ true → i ≡ k) → count_by p xs ≤ 1
  at_most_one [] h = omega arith
  at_most_one (x ∷ xs) h =
      let more = sum_by-cons (λ y. cond {A = ℕ} (p y) 1 0) x xs in
      elim (cases_Bool (p x)) [
        | inl e ↦ (let one : cond {A = ℕ} (p x) 1 0 ≡ 1 = rw e refl in
            let none = none_among xs (count_by p xs) refl (λ j y f g. let k : 0 ≡ suc j = h 0 (suc j) x y refl f e g in absurd (omega (arith, k))) in
            omega (arith, more, one, none))
        | inr e ↦ (let no : cond {A = ℕ} (p x) 1 0 ≡ 0 = rw e refl in
            let rest = at_most_one xs (λ i k a b f g u v. let t : suc i ≡ suc k = h (suc i) (suc k) a b f g u v in omega (arith, t)) in
            omega (arith, more, no, rest))
      ]

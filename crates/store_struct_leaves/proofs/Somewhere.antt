-- A number below a count for which a test holds.
use Rattle.std.proofs.Common.{◌≡◌, ◌<◌, ◌+◌, ℕ, Bool, true, false, zero, suc, refl, arith, add-one, ◌⊎◌, inl, inr, ◌||◌, subst}
use Rattle.store_struct_leaves.specs.CopyPlaces.{any_below}

or_true : (a : Bool) → (a || true) ≡ true
or_true true = refl
or_true false = refl

pub somewhere : (p : ℕ → Bool) (count at : ℕ) → at < count → p at ≡ true → any_below p count ≡ true
somewhere p zero at h k = absurd (omega arith)
somewhere p (suc count) at h k =
    let s : (at ≡ count) ⊎ (at < count) = grind arith in
    elim s [
      | inl e ↦ let t : p count ≡ true = subst (λ i. p i ≡ true) e k in rw t (or_true (any_below p count))
      | inr less ↦ rw (somewhere p count at less k) refl
    ]

pub nowhere_next : (p : ℕ → Bool) (at : ℕ) → any_below p at ≡ false → p at ≡ false → any_below p (at + 1) ≡ false
nowhere_next p at h k = rw (add-one at) (rw (h, k) refl)

-- The number of bytes under one signedness, converted, is that under the other.
use Rattle.std.proofs.Common.{◌≡◌, ℕ, zero, suc, ◌+◌, ◌-◌, ◌*◌, ◌%◌, ◌^◌, ◌<◌, Bool, true, false, cond, Some, List, [], ◌∷◌, length, arith, subst, refl, ap, ◌∙◌, inl, inr, ◌⊎◌}
use Rattle.std.specs.Prelude.{slice_get, ℤ, pos, negsuc, ◌+ℤ◌, ◌-ℤ◌, nat_lt}
use Rattle.std.specs.Int.{int_rem_euclid}
use Rattle.std.proofs.lemmas.Int.{ints, int_rem_euclid_is}
use Rattle.std.proofs.lemmas.Nat.{pow-add}
use Rattle.std.proofs.Math.Nat.{mod-eq_of_lt, add-mod_right}
use Rattle.std.proofs.lemmas.Bool.{cases_Bool, ltb-true, ltb-false}
use Rattle.cc_base.specs.declared.int_types.IntType.{IntType}
use Rattle.cc_base.specs.IntegerTypes.{wrap_into}
use Rattle.memory_model.specs.Memory.Numbers.{Labelled, unsigned_of, number_of}

pub AreBytes : List Labelled → Type 0
AreBytes ns = (k : ℕ) (n : Labelled) → slice_get ns k ≡ Some n → n.number < 256

pub unsigned_below : (ns : List Labelled) → ((k : ℕ) (n : Labelled) → slice_get ns k ≡ Some n → n.number < 256) → unsigned_of ns < 2 ^ (8 * length ns)
unsigned_below [] h = omega arith
unsigned_below (n ∷ ns) h =
    let a = unsigned_below ns (λ k x e. h (suc k) x e) in
    let b = h 0 n refl in
    let e : 8 * suc (length ns) ≡ 8 + 8 * length ns = omega arith in
    let p : 2 ^ (8 * suc (length ns)) ≡ 256 * 2 ^ (8 * length ns) = ap (λ x. 2 ^ x) e ∙ pow-add 2 8 (8 * length ns) in
    omega arith

-- z is u or, below 0, u less the modulus
abbrev pub IsSame : ℕ → ℕ → ℤ → Type 0
IsSame m u z = (z ≡ pos u) ⊎ (z ≡ (pos u -ℤ pos m))

wrapped_at : (m d u : ℕ) (least z : ℤ) → 0 < m → least ≡ (pos 0 -ℤ pos d) → IsSame m u z → int_rem_euclid (z -ℤ least) (pos m) ≡ pos ((u + d) % m)
wrapped_at m d u least z p e (inl f) = int_rem_euclid_is (z -ℤ least) (pos m) m 0 (u + d) p refl (omega (arith, ints))
wrapped_at m d u least z p e (inr f) = int_rem_euclid_is (z -ℤ least) (pos m) m 1 (u + d) p refl (omega (arith, ints))

pub wrapped_unsigned : (m u : ℕ) (z : ℤ) → u < m → IsSame m u z → (pos 0 +ℤ int_rem_euclid (z -ℤ pos 0) (pos m)) ≡ pos u
wrapped_unsigned m u z h s =
    let a = wrapped_at m 0 u (pos 0) z (omega arith) (omega (arith, ints)) s in
    let b : (u + 0) % m ≡ u + 0 = mod-eq_of_lt (omega arith) in
    omega (arith, ints)

pub wrapped_signed : (m half u : ℕ) (z : ℤ) → m ≡ 2 * half → 0 < half → u < m → IsSame m u z → (negsuc (half - 1) +ℤ int_rem_euclid (z -ℤ negsuc (half - 1)) (pos m)) ≡ cond (nat_lt (2 * u) m) (pos u) (pos u -ℤ pos m)
wrapped_signed m half u z e p h s =
    let a = wrapped_at m half u (negsuc (half - 1)) z (omega arith) (omega (arith, ints)) s in
    elim (cases_Bool (nat_lt (2 * u) m)) [
      | inl f ↦ (let k = ltb-true _ _ f in let b : (u + half) % m ≡ u + half = mod-eq_of_lt (omega arith) in rw f (omega (arith, ints)))
      | inr f ↦ (let k = ltb-false _ _ f in
          let d : u + half ≡ (u - half) + m = omega arith in
          let b : (u + half) % m ≡ u - half = ap (λ x. x % m) d ∙ (add-mod_right (u - half) m ∙ mod-eq_of_lt (omega arith)) in
          rw f (omega (arith, ints)))
    ]

cond_same : (b : Bool) (m u : ℕ) → IsSame m u (cond b (pos u) (pos u -ℤ pos m))
cond_same true m u = inl refl
cond_same false m u = inr refl

number_same : (s : Bool) (ns : List Labelled) → IsSame (2 ^ (8 * length ns)) (unsigned_of ns) (number_of s ns)
number_same true ns = cond_same (nat_lt (2 * unsigned_of ns) (2 ^ (8 * length ns))) (2 ^ (8 * length ns)) (unsigned_of ns)
number_same false ns = inl refl

pub halves : (n : ℕ) → 0 < n → 2 ^ n ≡ 2 * 2 ^ (n - 1)
halves n h = let e : n ≡ 1 + (n - 1) = omega arith in ap (λ x. 2 ^ x) e ∙ pow-add 2 1 (n - 1)

pow_above : (n : ℕ) → 0 < 2 ^ n
pow_above zero = omega arith
pow_above (suc n) = let h = pow_above n in let e = pow-add 2 1 n in let f : 1 + n ≡ suc n = omega arith in subst (λ x. 0 < 2 ^ x) f (omega arith)

pub reread : (s t : Bool) (ns : List Labelled) (kind : IntType) → kind.signed ≡ t → kind.bytes ≡ length ns → 0 < length ns → ((k : ℕ) (n : Labelled) → slice_get ns k ≡ Some n → n.number < 256) → wrap_into kind (number_of s ns) ≡ number_of t ns
reread s true ns kind e f p h =
    rw (e, f) (wrapped_signed (2 ^ (8 * length ns)) (2 ^ (8 * length ns - 1)) (unsigned_of ns) (number_of s ns) (halves (8 * length ns) (omega arith)) (pow_above (8 * length ns - 1)) (unsigned_below ns h) (number_same s ns))
reread s false ns kind e f p h =
    rw (e, f) (wrapped_unsigned (2 ^ (8 * length ns)) (unsigned_of ns) (number_of s ns) (unsigned_below ns h) (number_same s ns))

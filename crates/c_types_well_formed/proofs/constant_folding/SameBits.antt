-- Conversion into a type sees of a number its low bits alone, also of one in 64 bits.
use Rattle.std.proofs.Common.{◌≡◌, inl, inr, ℕ, suc, ◌+◌, ◌-◌, ◌*◌, ◌%◌, ◌^◌, ◌<◌, ◌≤◌, arith, refl, ap, ap₂, sym, subst, ◌∙◌}
use Rattle.std.specs.Prelude.{ℤ, pos, negsuc, ◌+ℤ◌, ◌≤ℤ◌, ◌<ℤ◌, true, unsigned_abs, bit_and, bit_or, bit_xor}
use Rattle.std.specs.Int.{w64, cast_signed, cast_unsigned, int_bit_and, int_bit_or, int_bit_xor}
use Rattle.std.proofs.lemmas.Int.{ints, int_rem_euclid_is, to_z_pos}
use Rattle.std.proofs.lemmas.Nat.{pow_pos, and_mod, or_mod, xor_mod, and_le_l, or_lt, xor_lt}
use Rattle.std.proofs.lemmas.Bool.{cases_lt}
use Rattle.std.proofs.Math.Facts.{to_z-neg}
use Rattle.std.proofs.Math.Pow.{mod-mod-pow}
use Rattle.cc_base.specs.IntegerTypes.{is_size, wrap_into}
use Rattle.cc_base.specs.declared.int_types.IntType.{IntType}
use Rattle.interval_domain.specs.Intervals.IntervalNumbers.{by_size}
use Rattle.memory_model.specs.Effects.ScalarBytes.{bits_in}
use Rattle.store_sound.proofs.operations.Fresh.{wrap_bits}

pub same_wrapped : (k : IntType) (x y : ℤ) → bits_in k.bytes x ≡ bits_in k.bytes y → wrap_into k x ≡ wrap_into k y
same_wrapped k x y e = wrap_bits k x ∙ (ap (λ n. wrap_into k (pos n)) e ∙ sym (wrap_bits k y))

-- a number and so many times the modulus are a natural number
pub bits_of_sum : (size : ℕ) (z : ℤ) (q m : ℕ) → z +ℤ pos (q * 2 ^ (8 * size)) ≡ pos m → bits_in size z ≡ m % 2 ^ (8 * size)
bits_of_sum size z q m e = ap unsigned_abs (int_rem_euclid_is z (pos (2 ^ (8 * size))) (2 ^ (8 * size)) q m (pow_pos (8 * size)) refl e)

-- ---- 64 bits

-- the bits of a number below 0
pub signed_high : (n m : ℕ) → n + suc m ≡ 2 ^ 64 → m < 2 ^ 63 → cast_signed w64 n ≡ negsuc m
signed_high n m e h = let d : n ≡ 2 ^ 64 - suc m = omega (arith, e) in ap (cast_signed w64) d ∙ to_z-neg w64 m h

high_whole : (n m : ℕ) → n + suc m ≡ 2 ^ 64 → negsuc m +ℤ pos (2 ^ 64) ≡ pos n
high_whole n m e = omega (arith, ints, e)

module _ (size : ℕ) (h : is_size size ≡ true) where
  -- how often 64 bits have the modulus
  pub parts : ℕ
  parts = 2 ^ (64 - 8 * size)

  pub whole : 2 ^ 64 ≡ parts * 2 ^ (8 * size)
  unfolding parts
  whole = by_size (λ n. 2 ^ 64 ≡ 2 ^ (64 - 8 * n) * 2 ^ (8 * n)) refl refl refl refl size h

  pub low_bits : (n : ℕ) → n % 2 ^ 64 % 2 ^ (8 * size) ≡ n % 2 ^ (8 * size)
  low_bits n = by_size (λ s. n % 2 ^ 64 % 2 ^ (8 * s) ≡ n % 2 ^ (8 * s)) (mod-mod-pow n 56 8) (mod-mod-pow n 48 16) (mod-mod-pow n 32 32) (mod-mod-pow n 0 64) size h

  -- a number and 2^64 are a natural number
  pub bits_of_whole : (z : ℤ) (m : ℕ) → z +ℤ pos (2 ^ 64) ≡ pos m → bits_in size z ≡ m % 2 ^ (8 * size)
  bits_of_whole z m e = bits_of_sum size z parts m (subst (λ x. z +ℤ pos x ≡ pos m) whole e)

  unsigned_bits : (z : ℤ) → negsuc (2 ^ 63 - 1) ≤ℤ z → bits_in size z ≡ cast_unsigned w64 z % 2 ^ (8 * size)
  unsigned_bits (pos n) p = refl
  unsigned_bits (negsuc n) p = bits_of_whole (negsuc n) (cast_unsigned w64 (negsuc n)) (omega (arith, ints, p))

  signed_bits : (n : ℕ) → n < 2 ^ 64 → bits_in size (cast_signed w64 n) ≡ n % 2 ^ (8 * size)
  signed_bits n p = elim (cases_lt n (2 ^ 63)) [
    | inl q ↦ ap (bits_in size) (to_z_pos w64 n q)
    | inr q ↦ (let m : ℕ = 2 ^ 64 - suc n in
        let e : n + suc m ≡ 2 ^ 64 = omega (arith, p) in
        ap (bits_in size) (signed_high n m e (omega (arith, e, q))) ∙ bits_of_whole (negsuc m) n (high_whole n m e))
  ]

unsigned_below : (z : ℤ) → negsuc (2 ^ 63 - 1) ≤ℤ z → z <ℤ pos (2 ^ 63) → cast_unsigned w64 z < 2 ^ 64
unsigned_below (pos n) p q = omega (arith, ints, q)
unsigned_below (negsuc n) p q = omega (arith, ints, p)

module _ (size : ℕ) (h : is_size size ≡ true) (a b : ℤ) (p : negsuc (2 ^ 63 - 1) ≤ℤ a) (q : a <ℤ pos (2 ^ 63)) (r : negsuc (2 ^ 63 - 1) ≤ℤ b) (s : b <ℤ pos (2 ^ 63)) where
  pub bits_and : bits_in size (int_bit_and w64 a b) ≡ bit_and (bits_in size a) (bits_in size b)
  bits_and =
      let x : ℕ = cast_unsigned w64 a in
      let y : ℕ = cast_unsigned w64 b in
      let below : x < 2 ^ 64 = unsigned_below a p q in
      let less : bit_and x y ≤ x = and_le_l x y in
      signed_bits size h (bit_and x y) (omega (arith, below, less)) ∙ (and_mod x y (8 * size) ∙ sym (ap₂ bit_and (unsigned_bits size h a p) (unsigned_bits size h b r)))

  pub bits_or : bits_in size (int_bit_or w64 a b) ≡ bit_or (bits_in size a) (bits_in size b)
  bits_or =
      let x : ℕ = cast_unsigned w64 a in
      let y : ℕ = cast_unsigned w64 b in
      signed_bits size h (bit_or x y) (or_lt 64 x y (unsigned_below a p q) (unsigned_below b r s)) ∙ (or_mod x y (8 * size) ∙ sym (ap₂ bit_or (unsigned_bits size h a p) (unsigned_bits size h b r)))

  pub bits_xor : bits_in size (int_bit_xor w64 a b) ≡ bit_xor (bits_in size a) (bits_in size b)
  bits_xor =
      let x : ℕ = cast_unsigned w64 a in
      let y : ℕ = cast_unsigned w64 b in
      signed_bits size h (bit_xor x y) (xor_lt 64 x y (unsigned_below a p q) (unsigned_below b r s)) ∙ (xor_mod x y (8 * size) ∙ sym (ap₂ bit_xor (unsigned_bits size h a p) (unsigned_bits size h b r)))

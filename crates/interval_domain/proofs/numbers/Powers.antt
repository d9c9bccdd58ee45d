-- Powers of two within 128 bits, and numbers times them, for the code.
use Rattle.std.proofs.Common.{◌≡◌, ℕ, ◌+◌, ◌-◌, ◌*◌, ◌^◌, ◌≤◌, ◌<◌, ℤ, pos, negsuc, ◌≤ℤ◌, ◌<ℤ◌, ◌*ℤ◌, ◌%◌, unsigned_abs, FitsSigned, to_z, refl, arith, ap, ◌∙◌, sym, subst, inl, inr}
use Rattle.std.specs.Int.{w128, leading_zeros}
use Rattle.std.proofs.Math.Nat.{pow-le-pow_right}
use Rattle.std.proofs.lemmas.Bool.{cases_lt}
use Rattle.std.proofs.lemmas.Nat.{one_shl, pow_below, mul-le, leading_length}
use Rattle.std.proofs.lemmas.Int.{ints, to_z_pos}
use Rattle.interval_domain.specs.Numbers.SingleNumbers.{scaled}

power_at_most : (n : ℕ) → n ≤ 63 → 2 ^ n ≤ 2 ^ 63
power_at_most n h = pow-le-pow_right (omega arith) h

pub power_bits : (n : ℕ) → n < 127 → to_z w128 (1 * 2 ^ n % 2 ^ 128) ≡ pos (2 ^ n)
power_bits n h = ap (to_z w128) (one_shl n 128 (omega arith)) ∙ to_z_pos w128 (2 ^ n) (pow_below n 127 h)

scale_least : (z n : ℕ) → n ≤ 63 → z * 2 ^ n ≤ z * 2 ^ 63
scale_least z n h = mul-le z (2 ^ n) z (2 ^ 63) (omega arith) (power_at_most n h)

-- 2 to the power n, for a count n
pub record Scaling (z p n : ℤ) : Type 0 where
  pub fits : FitsSigned w128 (z *ℤ p)
  pub value : z *ℤ p ≡ scaled z n
  pub nonnegative : pos 0 ≤ℤ (z *ℤ p)
  pub bound : (z *ℤ p) ≤ℤ pos (unsigned_abs z * 2 ^ 63)

pub scaling : (z p n : ℤ) → pos 0 ≤ℤ z → z <ℤ pos (2 ^ 64) → pos 0 ≤ℤ n → n ≤ℤ pos 63 → p ≡ pos (2 ^ unsigned_abs n) → Scaling z p n
scaling (pos z) p (pos n) a b c d e =
    let f : z * 2 ^ n ≤ z * 2 ^ 63 = scale_least z n (omega (arith, ints)) in
    subst (λ p. Scaling (pos z) p (pos n)) (sym e) (record {
      fits = omega (arith, ints);
      value = refl;
      nonnegative = omega (arith, ints);
      bound = omega (arith, ints);
    })
scaling (negsuc z) p n a b c d e = absurd (omega (arith, ints))
scaling (pos z) p (negsuc n) a b c d e = absurd (omega (arith, ints))

leading_at : (a m l : ℕ) → l + m ≡ 128 → 2 ^ m ≤ 2 * a + 1 → a ≤ 2 ^ 64 → 128 - l < 127
leading_at a m l e p q = elim (cases_lt m 127) [ inl h ↦ omega arith | inr h ↦ (let r : 2 ^ 127 ≤ 2 ^ m = pow-le-pow_right (omega arith) h in absurd (omega arith)) ]

pub leading_small : (a : ℕ) → a ≤ 2 ^ 64 → 128 - leading_zeros w128 a < 127
leading_small a h = let r = leading_length 128 a (omega arith) in leading_at a r.0 (leading_zeros w128 a) r.1 r.3 h

-- Facts on the ranges of types, for the code.
use Rattle.std.proofs.Common.{◌≡◌, ℕ, ◌-◌, ◌*◌, ◌^◌, ◌≤◌, ℤ, pos, negsuc, ◌-ℤ◌, ◌≤ℤ◌, Bool, true, false, cond, unsigned_abs, FitsSigned, refl, arith, ◌⊎◌, inl, inr}
use Rattle.std.specs.Int.{w128}
use Rattle.std.proofs.lemmas.Int.{ints}
use lib.Signed.{le_z_yes}
use Rattle.cc_base.specs.IntegerTypes.{is_size, least_of, greatest_of}
use Rattle.cc_base.specs.declared.int_types.IntType.{IntType}
use Rattle.interval_domain.specs.Intervals.IntervalNumbers.{by_size}

least_low_at : (n : ℕ) (s : Bool) → is_size n ≡ true → negsuc (2 ^ 63 - 1) ≤ℤ cond s (negsuc (2 ^ (8 * n - 1) - 1)) (pos 0)
least_low_at n true h = by_size (λ n. negsuc (2 ^ 63 - 1) ≤ℤ negsuc (2 ^ (8 * n - 1) - 1)) (le_z_yes tt) (le_z_yes tt) (le_z_yes tt) (le_z_yes tt) n h
least_low_at n false h = le_z_yes tt

least_high_at : (n : ℕ) (s : Bool) → cond s (negsuc (2 ^ (8 * n - 1) - 1)) (pos 0) ≤ℤ pos 0
least_high_at n true = le_z_yes tt
least_high_at n false = le_z_yes tt

greatest_low_at : (n : ℕ) (s : Bool) → is_size n ≡ true → pos 127 ≤ℤ cond s (pos (2 ^ (8 * n - 1) - 1)) (pos (2 ^ (8 * n) - 1))
greatest_low_at n true h = by_size (λ n. pos 127 ≤ℤ pos (2 ^ (8 * n - 1) - 1)) (le_z_yes tt) (le_z_yes tt) (le_z_yes tt) (le_z_yes tt) n h
greatest_low_at n false h = by_size (λ n. pos 127 ≤ℤ pos (2 ^ (8 * n) - 1)) (le_z_yes tt) (le_z_yes tt) (le_z_yes tt) (le_z_yes tt) n h

greatest_high_at : (n : ℕ) (s : Bool) → is_size n ≡ true → cond s (pos (2 ^ (8 * n - 1) - 1)) (pos (2 ^ (8 * n) - 1)) ≤ℤ pos (2 ^ 64 - 1)
greatest_high_at n true h = by_size (λ n. pos (2 ^ (8 * n - 1) - 1) ≤ℤ pos (2 ^ 64 - 1)) (le_z_yes tt) (le_z_yes tt) (le_z_yes tt) (le_z_yes tt) n h
greatest_high_at n false h = by_size (λ n. pos (2 ^ (8 * n) - 1) ≤ℤ pos (2 ^ 64 - 1)) (le_z_yes tt) (le_z_yes tt) (le_z_yes tt) (le_z_yes tt) n h

pub record RangeFacts (k : IntType) : Type 0 where
  pub least_low : negsuc (2 ^ 63 - 1) ≤ℤ least_of k
  pub least_high : least_of k ≤ℤ pos 0
  pub greatest_low : pos 127 ≤ℤ greatest_of k
  pub greatest_high : greatest_of k ≤ℤ pos (2 ^ 64 - 1)

pub range_facts : (k : IntType) → is_size k.bytes ≡ true → RangeFacts k
range_facts k h = record {
  least_low = least_low_at k.bytes k.signed h;
  least_high = least_high_at k.bytes k.signed;
  greatest_low = greatest_low_at k.bytes k.signed h;
  greatest_high = greatest_high_at k.bytes k.signed h;
}

pub width_small : (n : ℕ) → is_size n ≡ true → 8 * n ≤ 64
width_small n h = by_size (λ n. 8 * n ≤ 64) (omega arith) (omega arith) (omega arith) (omega arith) n h

tight_at : (n : ℕ) (s : Bool) → is_size n ≡ true → (cond s (negsuc (2 ^ (8 * n - 1) - 1)) (pos 0) ≡ pos 0) ⊎ (cond s (pos (2 ^ (8 * n - 1) - 1)) (pos (2 ^ (8 * n) - 1)) ≤ℤ pos (2 ^ 63 - 1))
tight_at n true h = inr (by_size (λ n. pos (2 ^ (8 * n - 1) - 1) ≤ℤ pos (2 ^ 63 - 1)) (le_z_yes tt) (le_z_yes tt) (le_z_yes tt) (le_z_yes tt) n h)
tight_at n false h = inl refl

-- a type has no number below 0 or none above 2^63 - 1
pub tight : (k : IntType) → is_size k.bytes ≡ true → (least_of k ≡ pos 0) ⊎ (greatest_of k ≤ℤ pos (2 ^ 63 - 1))
tight k h = tight_at k.bytes k.signed h

-- a number of the type times at most 2^63 fits
pub scaled_fits : (k : IntType) (z r : ℤ) → is_size k.bytes ≡ true → pos 0 ≤ℤ z → z ≤ℤ greatest_of k → pos 0 ≤ℤ r → r ≤ℤ pos (unsigned_abs z * 2 ^ 63) → FitsSigned w128 (r -ℤ least_of k)
scaled_fits k (pos z) r h p q t u =
    let f = range_facts k h in
    elim (tight k h) [ inl e ↦ omega (arith, ints) | inr e ↦ omega (arith, ints) ]
scaled_fits k (negsuc z) r h p q t u = absurd (omega (arith, ints))

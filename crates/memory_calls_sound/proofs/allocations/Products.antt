-- The sizes that a count of elements of a size may come to.
use Rattle.std.proofs.Common.{◌≡◌, ℕ, suc, ◌*◌, ◌-◌, ◌^◌, ◌≤◌, Bool, true, false, cond, Some, None, arith, subst, sym, refl, ap, ◌∙◌}
use Rattle.std.specs.Prelude.{ℤ, pos, negsuc, ◌≤ℤ◌, ◌*ℤ◌, is_some, unsigned_abs, int_le, int_lt}
use Rattle.std.specs.Int.{int_max, int_min}
use Rattle.std.proofs.Math.Nat.{mul-le-mul_left}
use Rattle.std.proofs.lemmas.Int.{ints, clamps}
use Rattle.std.proofs.lemmas.Option.{same_Some}
use Rattle.cc_base.specs.NumberRanges.{Range, range_met}
use Rattle.domain_theorems.proofs.values.Numbers.{RangeHas, met_has}
use Rattle.transfer_checks.specs.AllocationChecks.{is_too_small}
use Rattle.transfer_library_plans.specs.Allocations.{product_of, from_zero, products_of, products}
use Rattle.library_sound.proofs.fills.Targets.{sat_above, sat_below}

-- a size that is asked for: a range has it where it can be given, and begins no higher
pub record IsAsked (range : Range) (size most : ℕ) : Type 0 where
  pub low : ℤ
  pub high : ℤ
  pub is : range ≡ Some (low, high)
  pub from : low ≤ℤ pos size
  pub to : size ≤ most → pos size ≤ℤ high

pub asked_some : (range : Range) (size most : ℕ) → IsAsked range size most → is_some range ≡ true
asked_some range size most h = ap is_some h.is

pub asked_has : (range : Range) (size most : ℕ) → IsAsked range size most → size ≤ most → RangeHas range (pos size)
asked_has range size most h few = subst (λ z. RangeHas z (pos size)) (sym h.is) (h.from, h.to few)

-- fewer bytes than wanted are told
pub asked_small : (range : Range) (size most wanted : ℕ) → IsAsked range size most → suc size ≤ wanted → is_too_small range (Some wanted) ≡ true
asked_small range size most wanted h less =
    let low = h.from in
    let g : int_lt h.low (pos wanted) ≡ true = grind (arith, ints) in
    ap (λ z. is_too_small z (Some wanted)) h.is ∙ g

pub plain_asked : (range : Range) (size most : ℕ) → RangeHas range (pos size) → IsAsked range size most
plain_asked None size most h = absurd h
plain_asked (Some p) size most h = record { low = p.0; high = p.1; is = refl; from = h.0; to = λ few. h.1 }

-- ---- products

times_below : (a b c d : ℕ) → a ≤ c → b ≤ d → a * b ≤ c * d
times_below a b c d h g =
    let x : a * b ≤ a * d = mul-le-mul_left a g in
    let y : d * a ≤ d * c = mul-le-mul_left d h in
    let u : d * a ≡ a * d = grind arith in
    let v : d * c ≡ c * d = grind arith in
    omega (arith, x, y, u, v)

abs_is : (z : ℤ) → pos 0 ≤ℤ z → z ≡ pos (unsigned_abs z)
abs_is (pos k) h = refl
abs_is (negsuc k) h = absurd (omega (arith, ints, h))

-- the number is one from 0 on
pub record IsCount (p : ℤ × ℤ) (k : ℕ) : Type 0 where
  pub low : ℕ
  pub high : ℕ
  pub low_is : p.0 ≡ pos low
  pub high_is : p.1 ≡ pos high
  pub from : low ≤ k
  pub to : k ≤ high

count_is : (p : ℤ × ℤ) (k : ℕ) → pos 0 ≤ℤ p.0 → p.0 ≤ℤ pos k → pos k ≤ℤ p.1 → IsCount p k
count_is p k zero from to =
    let a = abs_is p.0 zero in
    let b = abs_is p.1 (omega (arith, ints, to)) in
    record { low = unsigned_abs p.0; high = unsigned_abs p.1; low_is = a; high_is = b; from = omega (arith, ints, a, from); to = omega (arith, ints, b, to) }

module _ (p r : ℤ × ℤ) (j k most : ℕ) (few : most ≤ 2 ^ 127 - 1) where
  product_asked : IsCount p j → IsCount r k → IsAsked (Some (product_of p.0 r.0, product_of p.1 r.1)) (j * k) most
  product_asked h g =
      let below = times_below h.low g.low j k h.from g.from in
      let above = times_below j k h.high g.high h.to g.to in
      let a : (p.0 *ℤ r.0) ≡ pos (h.low * g.low) = ap (λ z. z *ℤ r.0) h.low_is ∙ ap (λ z. pos h.low *ℤ z) g.low_is in
      let b : (p.1 *ℤ r.1) ≡ pos (h.high * g.high) = ap (λ z. z *ℤ r.1) h.high_is ∙ ap (λ z. pos h.high *ℤ z) g.high_is in
      record {
        low = product_of p.0 r.0;
        high = product_of p.1 r.1;
        is = refl;
        from = sat_below (p.0 *ℤ r.0) (pos (j * k)) (omega (arith, ints, a, below)) (omega (arith, ints));
        to = λ size. sat_above (p.1 *ℤ r.1) (pos (j * k)) (omega (arith, ints, b, above)) (omega (arith, ints, size, few));
      }

from_zero_has : (x : Range) (k : ℕ) → RangeHas x (pos k) → (p : ℤ × ℤ) × (from_zero x ≡ Some p) × IsCount p k
from_zero_has None k h = absurd h
from_zero_has (Some x) k h = by_met (range_met (Some x) (pos 0) x.1) refl (met_has (Some x) (pos 0) x.1 (pos k) h (omega (arith, ints)) h.1)
  where
    from_met : (x p : ℤ × ℤ) → range_met (Some x) (pos 0) x.1 ≡ Some p → pos 0 ≤ℤ p.0
    from_met x p e = by_test (int_le (int_max x.0 (pos 0)) (int_min x.1 x.1)) e
      where
        by_test : (b : Bool) → cond b (Some (int_max x.0 (pos 0), int_min x.1 x.1)) None ≡ Some p → pos 0 ≤ℤ p.0
        by_test true g = let same : int_max x.0 (pos 0) ≡ p.0 = ap (λ z. z.0) (same_Some (int_max x.0 (pos 0), int_min x.1 x.1) p g) in omega (arith, ints, clamps, same)
        by_test false g = cc

    by_met : (r : Range) → range_met (Some x) (pos 0) x.1 ≡ r → RangeHas r (pos k) → (p : ℤ × ℤ) × (from_zero (Some x) ≡ Some p) × IsCount p k
    by_met None e g = absurd g
    by_met (Some p) e g = (p, e, count_is p k (from_met x p e) g.0 g.1)

-- what `calloc` asks for
pub products_asked : (x y : Range) (j k most : ℕ) → most ≤ 2 ^ 127 - 1 → RangeHas x (pos j) → RangeHas y (pos k) → IsAsked (products x y) (j * k) most
products_asked x y j k most few h g =
    let a = from_zero_has x j h in
    let b = from_zero_has y k g in
    let e : products x y ≡ Some (product_of a.0.0 b.0.0, product_of a.0.1 b.0.1) = ap (λ z. products_of z (from_zero y)) a.1 ∙ ap (products_of (Some a.0)) b.1 in
    subst (λ z. IsAsked z (j * k) most) (sym e) (product_asked a.0 b.0 j k most few a.2 b.2)

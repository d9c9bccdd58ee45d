-- The order of ranges: a range within another.
use Rattle.std.specs.Prelude.{◌≡◌, ℕ, suc, ◌*◌, ◌/◌, ◌<◌, ◌≤◌, ℤ, pos, negsuc, ◌*ℤ◌, ◌≤ℤ◌, true, int_le, int_div, Some, None, refl}
use Rattle.std.specs.Int.{int_min, int_max}
use Rattle.std.proofs.Common.{arith, subst, sym}
use Rattle.std.proofs.lemmas.Int.{ints, clamps}
use Rattle.std.proofs.lemmas.Bool.{cond_both}
use Rattle.std.proofs.lemmas.Nat.{mul-le, le-div, div-add-mod'}
use lib.IntN.{negsuc-*ℤ-pos}
use Rattle.cc_base.specs.Lattices.{LatticeOf, OrderLaws}
use Rattle.cc_base.specs.IntegerDomains.{IntegersOf, BoundLaws, of_range}
use Rattle.cc_base.specs.NumberRanges.{Range, range_between, range_sum, range_difference, range_times, range_over, range_met, upper_or}

pub le_true : (a b : ℤ) → int_le a b ≡ true → a ≤ℤ b
le_true a b h = grind (arith, ints)

-- each number of the first lies in the second
abbrev pub RangeBelow : Range → Range → Type 0
RangeBelow None y = Unit {0}
RangeBelow (Some p) None = ⊥
RangeBelow (Some p) (Some q) = (q.0 ≤ℤ p.0) × (p.1 ≤ℤ q.1)

pub range_refl : (x : Range) → RangeBelow x x
range_refl None = tt
range_refl (Some p) = (omega (arith, ints), omega (arith, ints))

pub sum_monotone : (x y u v : Range) → RangeBelow x u → RangeBelow y v → RangeBelow (range_sum x y) (range_sum u v)
sum_monotone None y u v h k = tt
sum_monotone (Some p) None u v h k = tt
sum_monotone (Some p) (Some q) None v h k = absurd h
sum_monotone (Some p) (Some q) (Some r) None h k = absurd k
sum_monotone (Some p) (Some q) (Some r) (Some s) h k = (omega (arith, ints), omega (arith, ints))

pub difference_monotone : (x y u v : Range) → RangeBelow x u → RangeBelow y v → RangeBelow (range_difference x y) (range_difference u v)
difference_monotone None y u v h k = tt
difference_monotone (Some p) None u v h k = tt
difference_monotone (Some p) (Some q) None v h k = absurd h
difference_monotone (Some p) (Some q) (Some r) None h k = absurd k
difference_monotone (Some p) (Some q) (Some r) (Some s) h k = (omega (arith, ints), omega (arith, ints))

pub times_rise : (a b : ℤ) (f : ℕ) → a ≤ℤ b → (a *ℤ pos f) ≤ℤ (b *ℤ pos f)
times_rise (pos a) (pos b) f h = let k : a * f ≤ b * f = mul-le a f b f (omega (arith, ints)) (omega arith) in omega (arith, ints)
times_rise (pos a) (negsuc b) f h = absurd (omega (arith, ints))
times_rise (negsuc a) (pos b) f h = let e = negsuc-*ℤ-pos a f in omega (arith, ints)
times_rise (negsuc a) (negsuc b) f h =
    let e = negsuc-*ℤ-pos a f in
    let d = negsuc-*ℤ-pos b f in
    let k : suc b * f ≤ suc a * f = mul-le (suc b) f (suc a) f (omega (arith, ints)) (omega arith) in
    omega (arith, ints)

pub times_monotone : (x u : Range) (f : ℕ) → RangeBelow x u → RangeBelow (range_times x f) (range_times u f)
times_monotone None u f h = tt
times_monotone (Some p) None f h = absurd h
times_monotone (Some p) (Some q) f h = (times_rise q.0 p.0 f h.0, times_rise p.1 q.1 f h.1)

rises : (a b m : ℕ) → 0 < m → a ≤ b → a / m ≤ b / m
rises a b m h k = let e = div-add-mod' a m in le-div (a / m) b m h (omega arith)

pub quotient_rises : (x y : ℤ) (m : ℕ) → 0 < m → x ≤ℤ y → int_div x (pos m) ≤ℤ int_div y (pos m)
quotient_rises (pos a) (pos b) m p h = let r = rises a b m p (omega (arith, ints)) in omega (arith, ints)
quotient_rises (pos a) (negsuc b) m p h = absurd (omega (arith, ints))
quotient_rises (negsuc a) (pos b) m p h = omega (arith, ints)
quotient_rises (negsuc a) (negsuc b) m p h = let r = rises (suc b) (suc a) m p (omega (arith, ints)) in omega (arith, ints)

pub over_monotone : (x u : Range) (m : ℕ) → 0 < m → RangeBelow x u → RangeBelow (range_over x m) (range_over u m)
over_monotone None u m p h = tt
over_monotone (Some p) None m o h = absurd h
over_monotone (Some p) (Some q) m o h = (quotient_rises q.0 p.0 m o h.0, quotient_rises p.1 q.1 m o h.1)

met_at : (a b c d e f g j : ℤ) → e ≤ℤ a → b ≤ℤ f → g ≤ℤ c → d ≤ℤ j → RangeBelow (range_between (int_max a c) (int_min b d)) (range_between (int_max e g) (int_min f j))
met_at a b c d e f g j h k m n = cond_both (int_le (int_max a c) (int_min b d)) (Some (int_max a c, int_min b d)) None (λ x. RangeBelow x (range_between (int_max e g) (int_min f j)))
    (λ t. cond_both (int_le (int_max e g) (int_min f j)) (Some (int_max e g, int_min f j)) None (λ y. RangeBelow (Some (int_max a c, int_min b d)) y)
    (λ s. (omega (arith, ints, clamps), omega (arith, ints, clamps))) (λ s. absurd (omega (arith, ints, clamps))))
    (λ t. tt)

pub met_monotone : (x u : Range) (a b c d : ℤ) → RangeBelow x u → c ≤ℤ a → b ≤ℤ d → RangeBelow (range_met x a b) (range_met u c d)
met_monotone None u a b c d h k m = tt
met_monotone (Some p) None a b c d h k m = absurd h
met_monotone (Some p) (Some q) a b c d h k m = met_at p.0 p.1 a b q.0 q.1 c d h.0 h.1 k m

pub upper_monotone : (x u : Range) → RangeBelow x u → (y : ℤ × ℤ) → x ≡ Some y → upper_or (pos 0) x ≤ℤ upper_or (pos 0) u
upper_monotone None u h y e = absurd (cc)
upper_monotone (Some p) None h y e = absurd h
upper_monotone (Some p) (Some q) h y e = h.1

module _ {I : Type 0} {l : LatticeOf I} {n : IntegersOf I} {stands : I → ℤ → Type 0} (b : BoundLaws l n stands) where
  bounds_at : (x y : I) (r : Range) → l.leq x y ≡ true → n.bounds x ≡ r → RangeBelow r (n.bounds y)
  bounds_at x y None h e = tt
  bounds_at x y (Some p) h e =
      let w = b.wider x y p.0 p.1 h e in
      subst (λ s. RangeBelow (Some p) s) (sym w.2) (w.3, w.4)

  -- a larger value has wider bounds
  pub bounds_monotone : (x y : I) → l.leq x y ≡ true → RangeBelow (n.bounds x) (n.bounds y)
  bounds_monotone x y h = bounds_at x y (n.bounds x) h refl

module _ {I : Type 0} {l : LatticeOf I} {n : IntegersOf I} {stands : I → ℤ → Type 0} (o : OrderLaws l) (b : BoundLaws l n stands) where
  pub of_range_monotone : (r s : Range) → RangeBelow r s → l.leq (of_range l n r) (of_range l n s) ≡ true
  of_range_monotone None s h = o.least_below (of_range l n s)
  of_range_monotone (Some p) None h = absurd h
  of_range_monotone (Some p) (Some q) h = cond_both (int_le p.0 p.1) (n.between p.0 p.1) l.least (λ x. l.leq x (of_range l n (Some q)) ≡ true)
      (λ t. cond_both (int_le q.0 q.1) (n.between q.0 q.1) l.least (λ y. l.leq (n.between p.0 p.1) y ≡ true)
      (λ s. b.below_between (n.between p.0 p.1) p.0 p.1 q.0 q.1 (b.between_bounds p.0 p.1 (omega (arith, ints))) h.0 h.1) (λ s. absurd (omega (arith, ints))))
      (λ t. o.least_below (of_range l n (Some q)))

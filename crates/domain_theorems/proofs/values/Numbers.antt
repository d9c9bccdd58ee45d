-- The numbers of a range.
use Rattle.std.specs.Prelude.{ℕ, ◌<◌, ℤ, pos, ◌+ℤ◌, ◌-ℤ◌, ◌*ℤ◌, ◌≤ℤ◌, int_le, int_div, Some, None}
use Rattle.std.specs.Int.{int_min, int_max}
use Rattle.std.proofs.Common.{arith, sym, subst}
use Rattle.std.proofs.lemmas.Int.{ints, clamps}
use Rattle.std.proofs.lemmas.Bool.{cond_both}
use Rattle.cc_base.specs.Lattices.{LatticeOf}
use Rattle.cc_base.specs.IntegerDomains.{IntegersOf, BoundLaws, of_range}
use Rattle.cc_base.specs.NumberRanges.{Range, range_sum, range_difference, range_times, range_over, range_met, upper_or}
use Rattle.domain_theorems.proofs.values.Ranges.{times_rise, quotient_rises}

-- z lies within the bounds
abbrev pub RangeHas : Range → ℤ → Type 0
RangeHas None z = ⊥
RangeHas (Some p) z = (p.0 ≤ℤ z) × (z ≤ℤ p.1)

pub sum_has : (x y : Range) (a b : ℤ) → RangeHas x a → RangeHas y b → RangeHas (range_sum x y) (a +ℤ b)
sum_has None y a b h k = absurd h
sum_has (Some p) None a b h k = absurd k
sum_has (Some p) (Some q) a b h k = (omega (arith, ints), omega (arith, ints))

pub difference_has : (x y : Range) (a b : ℤ) → RangeHas x a → RangeHas y b → RangeHas (range_difference x y) (a -ℤ b)
difference_has None y a b h k = absurd h
difference_has (Some p) None a b h k = absurd k
difference_has (Some p) (Some q) a b h k = (omega (arith, ints), omega (arith, ints))

pub times_has : (x : Range) (a : ℤ) (f : ℕ) → RangeHas x a → RangeHas (range_times x f) (a *ℤ pos f)
times_has None a f h = absurd h
times_has (Some p) a f h = (times_rise p.0 a f h.0, times_rise a p.1 f h.1)

pub over_has : (x : Range) (a : ℤ) (m : ℕ) → 0 < m → RangeHas x a → RangeHas (range_over x m) (int_div a (pos m))
over_has None a m o h = absurd h
over_has (Some p) a m o h = (quotient_rises p.0 a m o h.0, quotient_rises a p.1 m o h.1)

pub met_has : (x : Range) (a b z : ℤ) → RangeHas x z → a ≤ℤ z → z ≤ℤ b → RangeHas (range_met x a b) z
met_has None a b z h k m = absurd h
met_has (Some p) a b z h k m = cond_both (int_le (int_max p.0 a) (int_min p.1 b)) (Some (int_max p.0 a, int_min p.1 b)) None (λ x. RangeHas x z)
    (λ t. (omega (arith, ints, clamps), omega (arith, ints, clamps))) (λ t. absurd (omega (arith, ints, clamps)))

pub upper_above : (x : Range) (z : ℤ) → RangeHas x z → z ≤ℤ upper_or (pos 0) x
upper_above None z h = absurd h
upper_above (Some p) z h = h.1

module _ {I : Type 0} {l : LatticeOf I} {n : IntegersOf I} {stands : I → ℤ → Type 0} (b : BoundLaws l n stands) where
  pub bounds_have : (x : I) (a : ℤ) → stands x a → RangeHas (n.bounds x) a
  bounds_have x a h = let i = b.inside x a h in subst (λ r. RangeHas r a) (sym i.2) (i.3, i.4)

  between_stands : (c d z : ℤ) → c ≤ℤ z → z ≤ℤ d → stands (n.between c d) z
  between_stands c d z p q = b.larger (n.one z) (n.between c d) z (b.below_between (n.one z) z z c d (b.one_bounds z) p q) (b.one_stands z)

  pub of_range_stands : (r : Range) (z : ℤ) → RangeHas r z → stands (of_range l n r) z
  of_range_stands None z h = absurd h
  of_range_stands (Some p) z h = cond_both (int_le p.0 p.1) (n.between p.0 p.1) l.least (λ x. stands x z)
      (λ t. between_stands p.0 p.1 z h.0 h.1) (λ t. absurd (omega (arith, ints)))

-- Tables that the laws refuse, each by numbers that show it, at the type of one signed byte.
use Rattle.std.specs.Prelude.{◌≡◌, ℤ, pos, negsuc, ◌*ℤ◌, ◌≤ℤ◌, true, false, cond, Some, refl}
use Rattle.std.specs.Int.{int_min, int_max, int_rem_euclid}
use Rattle.std.proofs.Common.{arith, subst}
use Rattle.std.proofs.lemmas.Int.{ints}
use lib.Signed.{le_z_yes}
use Rattle.cc_base.specs.MachineArithmetic.{binary_result, holds}
use Rattle.cc_base.specs.Truths.{can_fail}
use Rattle.cc_base.specs.declared.int_types.IntType.{IntType}
use Rattle.cc_base.specs.declared.integer_operators.IntOp.TheVariants.{Mul, Rem, Shr}
use Rattle.cc_base.specs.declared.integer_operators.Rel.TheVariants.{Lt}
use Rattle.cc_base.specs.declared.integer_operators.Tri.{Tri}
use Rattle.cc_base.specs.declared.integer_operators.Tri.TheVariants.{Yes, No}
use Rattle.interval_domain.specs.declared.intervals.spans.Span.{Span}
use Rattle.interval_domain.specs.declared.intervals.intervals.Interval.{Interval}
use Rattle.interval_domain.specs.declared.intervals.intervals.Interval.TheVariants.{Of}
use Rattle.interval_domain.specs.Intervals.Spans.{between_or_empty, Stands}
use Rattle.interval_domain.specs.Intervals.IntervalOrder.{interval_leq}
use Rattle.interval_domain.specs.Intervals.Arithmetic.{clamped, whole, into}
use Rattle.interval_domain.specs.Intervals.Relations as relation
use Rattle.interval_domain.specs.Intervals.Best.{IsLeastWith}

abbrev char : IntType
char = record { bytes = 1; signed = true; rank = 1 }

abbrev around : Span
around = record { lo = negsuc 0; hi = pos 2; ordered = le_z_yes tt }

abbrev upwards : Span
upwards = record { lo = pos 1; hi = pos 3; ordered = le_z_yes tt }

abbrev two : Span
two = record { lo = pos 2; hi = pos 2; ordered = le_z_yes tt }

abbrev below_zero : Span
below_zero = record { lo = negsuc 4; hi = negsuc 4; ordered = le_z_yes tt }

abbrev three : Span
three = record { lo = pos 3; hi = pos 3; ordered = le_z_yes tt }

-- `>>` that gives the whole type: 8 by 1 is 4
whole_shift : IsLeastWith (λ z. binary_result Shr char (pos 8) (pos 1) ≡ Some z) (whole char) → ⊥
unfolding between_or_empty
whole_shift h = let e : interval_leq (whole char) (between_or_empty (pos 4) (pos 4)) ≡ true = h.least (between_or_empty (pos 4) (pos 4)) is_four in cc
  where
    is_four : (z : ℤ) → binary_result Shr char (pos 8) (pos 1) ≡ Some z → Stands (between_or_empty (pos 4) (pos 4)) z
    is_four z e = let f : pos 4 ≡ z = same (pos 4) z e in subst (Stands (between_or_empty (pos 4) (pos 4))) f (le_z_yes tt, le_z_yes tt)
      where
        same : (a b : ℤ) → Some a ≡ Some b → a ≡ b
        same a b e = cc

-- `*` without the corner of both upper bounds: 2 times 2 is 4, of -1 to 2 by -1 to 2
abbrev three_corners : IntType → Span → Span → Interval
three_corners k s t = into k (int_min (s.lo *ℤ t.lo) (int_min (s.lo *ℤ t.hi) (s.hi *ℤ t.lo))) (int_max (s.lo *ℤ t.lo) (int_max (s.lo *ℤ t.hi) (s.hi *ℤ t.lo)))

forgotten_corner : ((k : IntType) (s t : Span) (a b c : ℤ) → Stands (Of s) a → Stands (Of t) b → binary_result Mul k a b ≡ Some c → Stands (three_corners k s t) c) → ⊥
unfolding between_or_empty
forgotten_corner h = let e : pos 4 ≤ℤ pos 1 = (h char around around (pos 2) (pos 2) (pos 4) (le_z_yes tt, le_z_yes tt) (le_z_yes tt, le_z_yes tt) refl).1 in omega (arith, ints)

-- `%` with the sign of the divisor: -5 by 3 leaves -2, not 1
abbrev divisor_signed : IntType → Span → Span → Interval
divisor_signed k s t = clamped k (int_rem_euclid s.lo t.lo) (int_rem_euclid s.lo t.lo)

wrong_sign : ((k : IntType) (s t : Span) (a b c : ℤ) → Stands (Of s) a → Stands (Of t) b → binary_result Rem k a b ≡ Some c → Stands (divisor_signed k s t) c) → ⊥
unfolding between_or_empty
wrong_sign h = let e : pos 1 ≤ℤ negsuc 1 = (h char below_zero three (negsuc 4) (pos 3) (negsuc 1) (le_z_yes tt, le_z_yes tt) (le_z_yes tt, le_z_yes tt) refl).0 in omega (arith, ints)

-- a comparison that never may hold and fail: 1 is below 2, and 3 is not
abbrev one_truth : Span → Span → Tri
one_truth s t = cond (relation.can_hold Lt s t) Yes No

never_both : ((s t : Span) (a b : ℤ) → Stands (Of s) a → Stands (Of t) b → holds Lt a b ≡ false → can_fail (one_truth s t) ≡ true) → ⊥
never_both h = let e : false ≡ true = h upwards two (pos 3) (pos 2) (le_z_yes tt, le_z_yes tt) (le_z_yes tt, le_z_yes tt) refl in cc

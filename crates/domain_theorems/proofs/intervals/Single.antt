-- Spans of one number, and intervals that have a number.
use Rattle.std.specs.Prelude.{◌≡◌, ℤ, ◌≤ℤ◌, true, int_le}
use Rattle.std.specs.Int.{int_min, int_max}
use Rattle.std.specs.Ordering.{int_eq}
use Rattle.std.proofs.Common.{arith}
use Rattle.std.proofs.lemmas.Int.{ints, clamps}
use Rattle.std.proofs.lemmas.Bool.{and_parts}
use Rattle.std.proofs.lemmas.Bool.Decides.{Decides-int_eq}
use lib.Signed.{≤ℤ_refl}
use Rattle.cc_base.specs.IntegerTypes.{in_type, least_of, greatest_of}
use Rattle.cc_base.specs.declared.int_types.IntType.{IntType}
use Rattle.interval_domain.specs.declared.intervals.spans.Span.{Span}
use Rattle.interval_domain.specs.declared.intervals.intervals.Interval.{Interval}
use Rattle.interval_domain.specs.declared.intervals.intervals.Interval.TheVariants.{Bottom, Of}
use Rattle.interval_domain.specs.Intervals.Spans.{between_or_empty, by_between, same_spans, Stands}
use Rattle.interval_domain.specs.Intervals.IntervalOrder.{interval_leq}
use Rattle.interval_domain.specs.Intervals.Arithmetic.{clamped, corners, met, is_of_type, is_single}
use Rattle.interval_domain.specs.Intervals.Blocks.{least_of_four_is, greatest_of_four_is}
use Rattle.interval_domain.specs.Intervals.Best.{le_true, below_if}
use Rattle.domain_theorems.specs.Intervals.Kit.{in_type_between}
use Rattle.domain_theorems.specs.Intervals.Corners.{low, high}

abbrev pub only : ℤ → Span
only a = record { lo = a; hi = a; ordered = ≤ℤ_refl a }

pub is_only : (s : Span) → is_single s ≡ true → s ≡ only s.lo
is_only s h = let e = (Decides-int_eq s.lo s.hi).0 h in same_spans s (only s.lo) (omega (arith, ints)) (omega (arith, ints))

pub only_single : (a : ℤ) → int_eq a a ≡ true
only_single a = grind (arith, ints)

pub has_only : (a z : ℤ) → Stands (Of (only a)) z → z ≡ a
has_only a z h = omega (arith, ints)

pub at_lo : (s : Span) → Stands (Of s) s.lo
at_lo s = (≤ℤ_refl s.lo, s.ordered)

pub at_hi : (s : Span) → Stands (Of s) s.hi
at_hi s = (s.ordered, ≤ℤ_refl s.hi)

-- an interval has all that lies between two of its numbers
pub stands_among : (y : Interval) (a b z : ℤ) → Stands y a → Stands y b → a ≤ℤ z → z ≤ℤ b → Stands y z
stands_among Bottom a b z p q r u = absurd p
stands_among (Of s) a b z p q r u = (omega (arith, ints), omega (arith, ints))

pub between_has : (a b z : ℤ) → Stands (between_or_empty a b) z → (a ≤ℤ z) × (z ≤ℤ b)
between_has a b z = by_between (λ x. Stands x z → (a ≤ℤ z) × (z ≤ℤ b)) a b (λ o h. h) (λ o h. absurd h)

pub number_of_type : (k : IntType) (s : Span) (a : ℤ) → is_of_type k s ≡ true → Stands (Of s) a → in_type k a ≡ true
number_of_type k s a h p =
    let e = and_parts (int_le (least_of k) s.lo) (int_le s.hi (greatest_of k)) h in
    let l = le_true (least_of k) s.lo e.0 in
    let m = le_true s.hi (greatest_of k) e.1 in
    in_type_between k a (omega (arith, ints)) (omega (arith, ints))

-- ---- what an interval is below

pub clamped_least : (k : IntType) (a b : ℤ) (y : Interval) → Stands y a → Stands y b → interval_leq (clamped k a b) y ≡ true
clamped_least k a b y p q = below_if _ _ y (λ (o : int_max a (least_of k) ≤ℤ int_min b (greatest_of k)).
    (stands_among y a b _ p q (omega (arith, ints, clamps)) (omega (arith, ints, clamps)), stands_among y a b _ p q (omega (arith, ints, clamps)) (omega (arith, ints, clamps))))

pub met_below : (k : IntType) (x : Interval) (y : Interval) → interval_leq x y ≡ true → interval_leq (met k x) y ≡ true
met_below k Bottom y h = h
met_below k (Of s) Bottom h = cc
met_below k (Of s) (Of t) h =
    let p = and_parts (int_le t.lo s.lo) (int_le s.hi t.hi) h in
    let l = le_true t.lo s.lo p.0 in
    let m = le_true s.hi t.hi p.1 in
    let o = s.ordered in
    clamped_least k s.lo s.hi (Of t) (l, omega (arith, ints)) (omega (arith, ints), m)

-- the corners are results of numbers of both sides
pub corners_least : (f : ℤ → ℤ → ℤ) (s t : Span) (y : Interval) → ((a b : ℤ) → Stands (Of s) a → Stands (Of t) b → Stands y (f a b)) → interval_leq (corners f s t) y ≡ true
corners_least f s t y g = below_if (low f s t) (high f s t) y (λ o. (
  least_of_four_is (Stands y) _ _ _ _ (g s.lo t.lo (at_lo s) (at_lo t)) (g s.lo t.hi (at_lo s) (at_hi t)) (g s.hi t.lo (at_hi s) (at_lo t)) (g s.hi t.hi (at_hi s) (at_hi t)),
  greatest_of_four_is (Stands y) _ _ _ _ (g s.lo t.lo (at_lo s) (at_lo t)) (g s.lo t.hi (at_lo s) (at_hi t)) (g s.hi t.lo (at_hi s) (at_lo t)) (g s.hi t.hi (at_hi s) (at_hi t)),
))

-- The order of intervals: an interval is at or below another that has all its numbers.
use Rattle.std.specs.Prelude.{◌≡◌, ℤ, Bool, true, false, ◌&&◌, ◌≤ℤ◌, int_le, refl}
use Rattle.std.specs.Int.{int_min, int_max}
use Rattle.std.proofs.Common.{arith, ap}
use Rattle.std.proofs.lemmas.Int.{ints, clamps}
use Rattle.interval_domain.specs.declared.intervals.spans.Span.{Span}
use Rattle.interval_domain.specs.declared.intervals.intervals.Interval.{Interval}
use Rattle.interval_domain.specs.declared.intervals.intervals.Interval.TheVariants.{Bottom, Of}
use Rattle.interval_domain.specs.Intervals.Spans.{same_spans, Stands, between_or_empty, between_own}

abbrev pub interval_leq : Interval → Interval → Bool
interval_leq Bottom y = true
interval_leq (Of s) Bottom = false
interval_leq (Of s) (Of t) = int_le t.lo s.lo && int_le s.hi t.hi

pub hull_ordered : (s t : Span) → int_min s.lo t.lo ≤ℤ int_max s.hi t.hi
hull_ordered s t = omega (arith, ints, clamps)

-- the least span that has the numbers of both
abbrev pub hull : Span → Span → Span
hull s t = record { lo = int_min s.lo t.lo; hi = int_max s.hi t.hi; ordered = hull_ordered s t }

-- the least interval that has the numbers of both
abbrev pub interval_join : Interval → Interval → Interval
interval_join Bottom y = y
interval_join (Of s) Bottom = Of s
interval_join (Of s) (Of t) = Of (hull s t)

pub leq_reflexive : (x : Interval) → interval_leq x x ≡ true
leq_reflexive Bottom = refl
leq_reflexive (Of s) = grind (arith, ints)

pub leq_transitive : (x y z : Interval) → interval_leq x y ≡ true → interval_leq y z ≡ true → interval_leq x z ≡ true
leq_transitive Bottom y z h k = refl
leq_transitive (Of s) Bottom z h k = cc
leq_transitive (Of s) (Of t) Bottom h k = k
leq_transitive (Of s) (Of t) (Of u) h k = grind (arith, ints)

lower_same : (s t : Span) → interval_leq (Of s) (Of t) ≡ true → interval_leq (Of t) (Of s) ≡ true → s.lo ≡ t.lo
lower_same s t h k = grind (arith, ints)

upper_same : (s t : Span) → interval_leq (Of s) (Of t) ≡ true → interval_leq (Of t) (Of s) ≡ true → s.hi ≡ t.hi
upper_same s t h k = grind (arith, ints)

pub leq_antisymmetric : (x y : Interval) → interval_leq x y ≡ true → interval_leq y x ≡ true → x ≡ y
leq_antisymmetric Bottom Bottom h k = refl
leq_antisymmetric Bottom (Of t) h k = cc
leq_antisymmetric (Of s) Bottom h k = cc
leq_antisymmetric (Of s) (Of t) h k = ap Of (same_spans s t (lower_same s t h k) (upper_same s t h k))

pub leq_join_left : (x y : Interval) → interval_leq x (interval_join x y) ≡ true
leq_join_left Bottom y = refl
leq_join_left (Of s) Bottom = grind (arith, ints)
leq_join_left (Of s) (Of t) = grind (arith, ints, clamps)

pub leq_join_right : (x y : Interval) → interval_leq y (interval_join x y) ≡ true
leq_join_right Bottom y = leq_reflexive y
leq_join_right (Of s) Bottom = refl
leq_join_right (Of s) (Of t) = grind (arith, ints, clamps)

pub leq_join_least : (x y z : Interval) → interval_leq x z ≡ true → interval_leq y z ≡ true → interval_leq (interval_join x y) z ≡ true
leq_join_least Bottom y z h k = k
leq_join_least (Of s) Bottom z h k = h
leq_join_least (Of s) (Of t) Bottom h k = h
leq_join_least (Of s) (Of t) (Of u) h k = grind (arith, ints, clamps)

-- a larger interval has at least the numbers of a smaller one
pub leq_stands : (x y : Interval) (n : ℤ) → interval_leq x y ≡ true → Stands x n → Stands y n
leq_stands Bottom y n h k = absurd k
leq_stands (Of s) Bottom n h k = cc
leq_stands (Of s) (Of t) n h k = grind (arith, ints)

-- the join by its bounds
pub join_is : (s t : Span) → between_or_empty (int_min s.lo t.lo) (int_max s.hi t.hi) ≡ interval_join (Of s) (Of t)
join_is s t = between_own (hull s t)

-- The operators on intervals, and conversion to a type.
pub use Rattle.interval_domain.specs.Numbers.SingleNumbers.{ApartFromZero, ones_above, scaled, halved}
use Rattle.std.specs.Prelude.{ℕ, ◌*◌, max, ℤ, pos, negsuc, ◌+ℤ◌, ◌-ℤ◌, ◌*ℤ◌, neg_ℤ, Bool, cond, ◌&&◌, ◌<ℤ◌, ◌≤ℤ◌, ◌⊎◌, int_le, int_lt, int_div, int_rem, bit_and, bit_or, bit_xor, unsigned_abs}
use Rattle.std.specs.Int.{int_min, int_max, int_rem_euclid}
use Rattle.std.specs.Ordering.{int_eq}
use Rattle.cc_base.specs.declared.int_types.IntType.{IntType}
use Rattle.cc_base.specs.declared.integer_operators.IntOp.{IntOp}
use Rattle.cc_base.specs.declared.integer_operators.IntOp.TheVariants.{Add, Sub, Mul, Div, Rem, And, Or, Xor, Shl, Shr}
use Rattle.cc_base.specs.declared.integer_operators.UnOp.{UnOp}
use Rattle.cc_base.specs.declared.integer_operators.UnOp.TheVariants.{Neg, Compl}
use Rattle.cc_base.specs.IntegerTypes.{modulus, least_of, greatest_of, wrap_into, block_of}
use Rattle.interval_domain.specs.declared.intervals.spans.Span.{Span}
use Rattle.interval_domain.specs.declared.intervals.intervals.Interval.{Interval}
use Rattle.interval_domain.specs.declared.intervals.intervals.Interval.TheVariants.{Bottom, Of}
use Rattle.interval_domain.specs.Intervals.Spans.{between_or_empty}
use Rattle.interval_domain.specs.Intervals.IntervalOrder.{interval_join}

-- the numbers from a to b that the type has
abbrev pub clamped : IntType → ℤ → ℤ → Interval
clamped k a b = between_or_empty (int_max a (least_of k)) (int_min b (greatest_of k))

-- the whole type
abbrev pub whole : IntType → Interval
whole k = between_or_empty (least_of k) (greatest_of k)

-- the numbers from a to b, converted: shifted into the type where they lie in one block of as many numbers as the type has
abbrev pub wrapped : IntType → ℤ → ℤ → Interval
wrapped k a b = cond (int_eq (block_of k a) (block_of k b)) (between_or_empty (wrap_into k a) (wrap_into k b)) (whole k)

-- mathematical results from a to b: a signed one outside the type does not come, an unsigned one wraps
abbrev pub into : IntType → ℤ → ℤ → Interval
into k a b = cond k.signed (clamped k a b) (wrapped k a b)

abbrev pub least_of_four : ℤ → ℤ → ℤ → ℤ → ℤ
least_of_four a b c d = int_min (int_min a b) (int_min c d)

abbrev pub greatest_of_four : ℤ → ℤ → ℤ → ℤ → ℤ
greatest_of_four a b c d = int_max (int_max a b) (int_max c d)

-- the least interval that has the results of f at the corners
abbrev pub corners : (ℤ → ℤ → ℤ) → Span → Span → Interval
corners f s t = between_or_empty (least_of_four (f s.lo t.lo) (f s.lo t.hi) (f s.hi t.lo) (f s.hi t.hi)) (greatest_of_four (f s.lo t.lo) (f s.lo t.hi) (f s.hi t.lo) (f s.hi t.hi))

-- the numbers of an interval that the type has
abbrev pub met : IntType → Interval → Interval
met k Bottom = Bottom
met k (Of s) = clamped k s.lo s.hi

-- ---- + - *

abbrev pub sums : IntType → Span → Span → Interval
sums k s t = into k (s.lo +ℤ t.lo) (s.hi +ℤ t.hi)

abbrev pub differences : IntType → Span → Span → Interval
differences k s t = into k (s.lo -ℤ t.hi) (s.hi -ℤ t.lo)

abbrev pub products : IntType → Span → Span → Interval
products k s t = into k (least_of_four (s.lo *ℤ t.lo) (s.lo *ℤ t.hi) (s.hi *ℤ t.lo) (s.hi *ℤ t.hi)) (greatest_of_four (s.lo *ℤ t.lo) (s.lo *ℤ t.hi) (s.hi *ℤ t.lo) (s.hi *ℤ t.hi))

-- ---- /

-- all numbers are below zero or all are above
abbrev pub IsApart : Interval → Type 0
IsApart Bottom = Unit {0}
IsApart (Of t) = (t.hi <ℤ pos 0) ⊎ (pos 0 <ℤ t.lo)

-- no end is zero
abbrev pub HasApartEnds : Interval → Type 0
HasApartEnds Bottom = Unit {0}
HasApartEnds (Of t) = ApartFromZero t.lo × ApartFromZero t.hi

-- the quotients by the numbers of an interval that has no zero
abbrev pub quotients_by : Span → Interval → Interval
quotients_by s Bottom = Bottom
quotients_by s (Of t) = corners int_div s t

-- by the numbers below zero and by those above
abbrev pub quotients : IntType → Span → Span → Interval
quotients k s t = met k (interval_join (quotients_by s (between_or_empty t.lo (int_min t.hi (negsuc 0)))) (quotients_by s (between_or_empty (int_max t.lo (pos 1)) t.hi)))

-- ---- %

-- a span without a zero at its ends
abbrev pub without_zero : Span → Interval
without_zero t = between_or_empty (cond (int_eq t.lo (pos 0)) (pos 1) t.lo) (cond (int_eq t.hi (pos 0)) (negsuc 0) t.hi)

-- the least absolute value of the numbers other than 0
abbrev pub least_size : Span → ℤ
least_size t = cond (int_lt (pos 0) t.lo) t.lo (cond (int_lt t.hi (pos 0)) (neg_ℤ t.hi) (pos 1))

abbrev pub greatest_size : Span → ℤ
greatest_size t = int_max (neg_ℤ t.lo) t.hi

abbrev pub is_single : Span → Bool
is_single s = int_eq s.lo s.hi

-- a single remainder; the least number by -1 has none
abbrev pub remainder : IntType → ℤ → ℤ → Interval
remainder k a b = cond (k.signed && (int_eq a (least_of k) && int_eq b (negsuc 0))) Bottom (clamped k (int_rem a b) (int_rem a b))

-- numbers between the dividend and zero, from -m to m
abbrev pub towards_zero : IntType → Span → ℤ → Interval
towards_zero k s m = clamped k (int_max (neg_ℤ m) (int_min s.lo (pos 0))) (int_min m (int_max s.hi (pos 0)))

abbrev pub remainders_by : IntType → Span → Interval → Interval
remainders_by k s Bottom = Bottom
remainders_by k s (Of t) = cond (is_single s && is_single t) (remainder k s.lo t.lo)
    (cond (int_lt (greatest_size s) (least_size t)) (clamped k s.lo s.hi) (towards_zero k s (greatest_size t -ℤ pos 1)))

abbrev pub remainders : IntType → Span → Span → Interval
remainders k s t = remainders_by k s (without_zero t)

-- ---- & | ^

-- all numbers of a span are of the type
abbrev pub is_of_type : IntType → Span → Bool
is_of_type k s = int_le (least_of k) s.lo && int_le s.hi (greatest_of k)

-- what two operands give whose numbers are of the type; others give any number of the type
abbrev pub if_of_type : IntType → Span → Span → Interval → Interval
if_of_type k s t x = cond (is_of_type k s && is_of_type k t) x (whole k)

-- the bits of a number in the type
abbrev pub bits_in : IntType → ℤ → ℕ
bits_in k z = unsigned_abs (int_rem_euclid z (pos (modulus k)))

-- the number of the type with these bits
abbrev pub with_bits : IntType → ℕ → Interval
with_bits k n = between_or_empty (wrap_into k (pos n)) (wrap_into k (pos n))

abbrev pub are_single : Span → Span → Bool
are_single s t = is_single s && is_single t

-- an operand that is not below zero bounds the result
abbrev pub and_bound : IntType → Span → Span → Interval
and_bound k s t = cond (int_le (pos 0) s.lo) (cond (int_le (pos 0) t.lo) (clamped k (pos 0) (int_min s.hi t.hi)) (clamped k (pos 0) s.hi)) (cond (int_le (pos 0) t.lo) (clamped k (pos 0) t.hi) (whole k))

abbrev pub conjunctions : IntType → Span → Span → Interval
conjunctions k s t = if_of_type k s t (cond (are_single s t) (with_bits k (bit_and (bits_in k s.lo) (bits_in k t.lo))) (and_bound k s t))

-- operands that are not below zero give no bit above theirs
abbrev pub or_bound : IntType → Span → Span → Interval
or_bound k s t = cond (int_le (pos 0) s.lo && int_le (pos 0) t.lo) (clamped k (pos 0) (ones_above (max (unsigned_abs s.hi) (unsigned_abs t.hi)))) (whole k)

abbrev pub disjunctions : IntType → Span → Span → Interval
disjunctions k s t = if_of_type k s t (cond (are_single s t) (with_bits k (bit_or (bits_in k s.lo) (bits_in k t.lo))) (or_bound k s t))

abbrev pub exclusives : IntType → Span → Span → Interval
exclusives k s t = if_of_type k s t (cond (are_single s t) (with_bits k (bit_xor (bits_in k s.lo) (bits_in k t.lo))) (or_bound k s t))

-- ---- << >>

-- the counts that are defined: from 0 to width - 1
abbrev pub counts : IntType → Span → Interval
counts k t = between_or_empty (int_max t.lo (pos 0)) (int_min t.hi (pos (8 * k.bytes) -ℤ pos 1))

-- all numbers are from 0 to 63
abbrev pub AreCounts : Interval → Type 0
AreCounts Bottom = Unit {0}
AreCounts (Of t) = (pos 0 ≤ℤ t.lo) × (t.hi ≤ℤ pos 63)

-- all numbers are from 0 to the greatest of the type
abbrev pub AreMultiplicands : IntType → Interval → Type 0
AreMultiplicands k Bottom = Unit {0}
AreMultiplicands k (Of s) = (pos 0 ≤ℤ s.lo) × (s.hi ≤ℤ greatest_of k)

abbrev pub scaled_by : IntType → Interval → Interval → Interval
scaled_by k Bottom y = Bottom
scaled_by k (Of s) Bottom = Bottom
scaled_by k (Of s) (Of t) = into k (scaled s.lo t.lo) (scaled s.hi t.hi)

-- of the numbers from 0 to the greatest of the type
abbrev pub shifted_left : IntType → Span → Span → Interval
shifted_left k s t = scaled_by k (between_or_empty (int_max s.lo (pos 0)) (int_min s.hi (greatest_of k))) (counts k t)

abbrev pub halved_by : Span → Interval → Interval
halved_by s Bottom = Bottom
halved_by s (Of t) = corners halved s t

abbrev pub shifted_right : IntType → Span → Span → Interval
shifted_right k s t = met k (halved_by s (counts k t))

-- ---- all operators

abbrev pub arith_spans : IntOp → IntType → Span → Span → Interval
arith_spans Add = sums
arith_spans Sub = differences
arith_spans Mul = products
arith_spans Div = quotients
arith_spans Rem = remainders
arith_spans And = conjunctions
arith_spans Or = disjunctions
arith_spans Xor = exclusives
arith_spans Shl = shifted_left
arith_spans Shr = shifted_right

abbrev pub interval_arith : IntOp → Interval → Interval → IntType → Interval
interval_arith op Bottom y k = Bottom
interval_arith op (Of s) Bottom k = Bottom
interval_arith op (Of s) (Of t) k = arith_spans op k s t

abbrev pub unary_span : UnOp → IntType → Span → Interval
unary_span Neg k s = into k (neg_ℤ s.hi) (neg_ℤ s.lo)
unary_span Compl k s = clamped k ((least_of k +ℤ greatest_of k) -ℤ s.hi) ((least_of k +ℤ greatest_of k) -ℤ s.lo)

abbrev pub interval_unary : UnOp → Interval → IntType → Interval
interval_unary op Bottom k = Bottom
interval_unary op (Of s) k = unary_span op k s

abbrev pub interval_convert : Interval → IntType → Interval
interval_convert Bottom k = Bottom
interval_convert (Of s) k = wrapped k s.lo s.hi

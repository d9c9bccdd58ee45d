-- Intervals as a domain of integers.
use Rattle.std.specs.Prelude.{◌≡◌, ℕ, ◌-◌, ◌*◌, ◌^◌, ◌<◌, ℤ, pos, negsuc, ◌+ℤ◌, ◌-ℤ◌, ◌≤ℤ◌, ◌<ℤ◌, Bool, true, false, cond, ◌&&◌, int_le, int_lt, bit_and, bit_or, bit_xor, Option, Some, None, List, refl, ◌⊎◌}
use Rattle.std.specs.Int.{int_rem_euclid, int_min, int_max}
use Rattle.std.specs.Ordering.{int_eq}
use Rattle.std.specs.List.{Contains}
use Rattle.std.proofs.Common.{arith, ap, ◌∙◌, sym, subst, inl, inr}
use Rattle.std.proofs.lemmas.Int.{ints, clamps}
use Rattle.std.proofs.lemmas.Bool.{cond_both}
use Rattle.std.proofs.lemmas.Nat.{pow_pos}
use lib.Signed.{≤ℤ_refl}
use Rattle.cc_base.specs.IntegerTypes.{is_size, modulus, least_of, greatest_of, wrap_into, block_of}
use Rattle.cc_base.specs.IntegerDomains.{IntegersOf, BoundLaws, RangeLaws}
use Rattle.cc_base.specs.declared.int_types.IntType.{IntType}
use Rattle.cc_base.specs.declared.integer_operators.IntOp.{IntOp}
use Rattle.cc_base.specs.declared.integer_operators.IntOp.TheVariants.{Add, Sub, Mul, Div, Rem, And, Or, Xor, Shl, Shr}
use Rattle.cc_base.specs.declared.integer_operators.UnOp.{UnOp}
use Rattle.cc_base.specs.declared.integer_operators.UnOp.TheVariants.{Neg, Compl}
use Rattle.cc_base.specs.declared.integer_operators.Rel.{Rel}
use Rattle.cc_base.specs.declared.integer_operators.Rel.TheVariants.{Lt, Le, Gt, Ge, Eq, Ne}
use Rattle.interval_domain.specs.declared.intervals.spans.Span.{Span}
use Rattle.interval_domain.specs.declared.intervals.intervals.Interval.{Interval}
use Rattle.interval_domain.specs.declared.intervals.intervals.Interval.TheVariants.{Bottom, Of}
use Rattle.interval_domain.specs.Intervals.Spans.{between_or_empty, between_some, by_between, interval_bounds, Stands}
use Rattle.interval_domain.specs.Intervals.IntervalOrder.{interval_leq, leq_stands, leq_reflexive}
use Rattle.interval_domain.specs.Intervals.IntervalRound.{interval_round, round_down, round_up, down_from, up_from, contains_from}
use Rattle.interval_domain.specs.Numbers.Nearest.{Has}
use Rattle.interval_domain.specs.Intervals.IntervalLattice.{interval_lattice}
use Rattle.interval_domain.specs.Intervals.Arithmetic.{interval_arith, interval_unary, interval_convert, arith_spans, clamped, whole, wrapped, into, met, with_bits, bits_in, are_single, is_single, greatest_size, least_size, and_bound, or_bound, is_of_type, if_of_type, remainder, remainders_by, without_zero, towards_zero, scaled_by}
use Rattle.interval_domain.specs.Intervals.Relations.{interval_compare, interval_refine, refined, without_end}

abbrev pub interval_numbers : IntegersOf Interval
interval_numbers = record {
  one = λ n. between_or_empty n n;
  between = between_or_empty;
  bounds = interval_bounds;
  arith = interval_arith;
  unary = interval_unary;
  convert = interval_convert;
  compare = interval_compare;
  refine = interval_refine;
}

-- ---- bounds

abbrev first_of : Option (ℤ × ℤ) → ℤ
first_of None = pos 0
first_of (Some p) = p.0

abbrev second_of : Option (ℤ × ℤ) → ℤ
second_of None = pos 0
second_of (Some p) = p.1

only_bottom : (x : Interval) → interval_bounds x ≡ None → x ≡ Bottom
only_bottom Bottom e = refl
only_bottom (Of s) e = cc

proper_bounds : (x : Interval) (a b : ℤ) → interval_bounds x ≡ Some (a, b) → a ≤ℤ b
proper_bounds Bottom a b e = cc
proper_bounds (Of s) a b e =
    let p : s.lo ≡ a = ap first_of e in
    let q : s.hi ≡ b = ap second_of e in
    omega (arith, ints)

below_span : (x : Interval) (a b c d : ℤ) → interval_bounds x ≡ Some (a, b) → c ≤ℤ a → b ≤ℤ d → interval_leq x (between_or_empty c d) ≡ true
below_span Bottom a b c d e h k = refl
below_span (Of s) a b c d e h k =
    let p : s.lo ≡ a = ap first_of e in
    let q : s.hi ≡ b = ap second_of e in
    by_between (λ y. interval_leq (Of s) y ≡ true) c d (λ o. grind (arith, ints)) (λ (o : d <ℤ c). absurd (omega (arith, ints)))

wider_bounds : (x y : Interval) (a b : ℤ) → interval_leq x y ≡ true → interval_bounds x ≡ Some (a, b) → (c : ℤ) × (d : ℤ) × (interval_bounds y ≡ Some (c, d)) × (c ≤ℤ a) × (b ≤ℤ d)
wider_bounds Bottom y a b h e = cc
wider_bounds (Of s) Bottom a b h e = cc
wider_bounds (Of s) (Of t) a b h e =
    let p : s.lo ≡ a = ap first_of e in
    let q : s.hi ≡ b = ap second_of e in
    (t.lo, t.hi, refl, grind (arith, ints), grind (arith, ints))

from_list : (list : List ℤ) (m x a : ℤ) → x ≡ a → (m ≡ x) ⊎ Has list m → (m ≡ a) ⊎ Contains list m
from_list list m x a e (inl f) = inl (f ∙ e)
from_list list m x a e (inr h) = inr (contains_from list m h)

rounded_bounds : (list : List ℤ) (x : Interval) (a b : ℤ) → interval_bounds x ≡ Some (a, b) → (c : ℤ) × (d : ℤ) × (interval_bounds (interval_round list x) ≡ Some (c, d)) × ((c ≡ a) ⊎ Contains list c) × ((d ≡ b) ⊎ Contains list d)
rounded_bounds list Bottom a b e = cc
rounded_bounds list (Of s) a b e =
    (round_down list s.lo, round_up list s.hi, refl, from_list list _ s.lo a (ap first_of e) (down_from list s.lo), from_list list _ s.hi b (ap second_of e) (up_from list s.hi))

inside_bounds : (x : Interval) (a : ℤ) → Stands x a → (c : ℤ) × (d : ℤ) × (interval_bounds x ≡ Some (c, d)) × (c ≤ℤ a) × (a ≤ℤ d)
inside_bounds Bottom a h = absurd h
inside_bounds (Of s) a h = (s.lo, s.hi, refl, h.0, h.1)

one_stands : (a : ℤ) → Stands (between_or_empty a a) a
one_stands a = by_between (λ x. Stands x a) a a (λ o. (≤ℤ_refl a, ≤ℤ_refl a)) (λ (o : a <ℤ a). absurd (omega (arith, ints)))

pub interval_bounding : BoundLaws interval_lattice interval_numbers Stands
interval_bounding = record {
  one_bounds = λ a. ap interval_bounds (between_some a a (≤ℤ_refl a));
  between_bounds = λ a b h. ap interval_bounds (between_some a b h);
  least_bounds = refl;
  only_least = only_bottom;
  proper = proper_bounds;
  below_between = below_span;
  wider = wider_bounds;
  round_bounds = rounded_bounds;
  round_least = λ list. refl;
  larger = leq_stands;
  inside = inside_bounds;
  one_stands = one_stands;
}

-- ---- ranges

-- an interval has numbers of the type alone
abbrev pub InRange : IntType → Interval → Type 0
InRange k Bottom = Unit {0}
InRange k (Of s) = (least_of k ≤ℤ s.lo) × (s.hi ≤ℤ greatest_of k)

pub clamped_in : (k : IntType) (a b : ℤ) → InRange k (clamped k a b)
clamped_in k a b = by_between (InRange k) (int_max a (least_of k)) (int_min b (greatest_of k)) (λ o. (omega (arith, ints, clamps), omega (arith, ints, clamps))) (λ o. tt)

pub by_size : (P : ℕ → Type 0) → P 1 → P 2 → P 4 → P 8 → (n : ℕ) → is_size n ≡ true → P n
by_size P a b c d n h =
    let s : (n ≡ 1) ⊎ ((n ≡ 2) ⊎ ((n ≡ 4) ⊎ (n ≡ 8))) = grind arith in
    elim s [ inl e ↦ subst P (sym e) a | inr t ↦ elim t [ inl e ↦ subst P (sym e) b | inr u ↦ elim u [ inl e ↦ subst P (sym e) c | inr e ↦ subst P (sym e) d ] ] ]

pub size_of_range : (n : ℕ) (s : Bool) → is_size n ≡ true → (cond s (negsuc (2 ^ (8 * n - 1) - 1)) (pos 0) +ℤ pos (2 ^ (8 * n))) ≡ (cond s (pos (2 ^ (8 * n - 1) - 1)) (pos (2 ^ (8 * n) - 1)) +ℤ pos 1)
size_of_range n true h = by_size (λ n. (negsuc (2 ^ (8 * n - 1) - 1) +ℤ pos (2 ^ (8 * n))) ≡ (pos (2 ^ (8 * n - 1) - 1) +ℤ pos 1)) refl refl refl refl n h
size_of_range n false h = by_size (λ n. (pos 0 +ℤ pos (2 ^ (8 * n))) ≡ (pos (2 ^ (8 * n) - 1) +ℤ pos 1)) refl refl refl refl n h

pub rem_range : (z : ℤ) (n : ℕ) → 0 < n → (pos 0 ≤ℤ int_rem_euclid z (pos n)) × (int_rem_euclid z (pos n) <ℤ pos n)
rem_range (pos a) n h = (omega (arith, ints), omega (arith, ints))
rem_range (negsuc a) n h = (omega (arith, ints), omega (arith, ints))

pub wrap_in : (k : IntType) (z : ℤ) → is_size k.bytes ≡ true → (least_of k ≤ℤ wrap_into k z) × (wrap_into k z ≤ℤ greatest_of k)
wrap_in k z h =
    let e : (least_of k +ℤ pos (modulus k)) ≡ (greatest_of k +ℤ pos 1) = size_of_range k.bytes k.signed h in
    let r = rem_range (z -ℤ least_of k) (modulus k) (pow_pos (8 * k.bytes)) in
    (omega (arith, ints), omega (arith, ints))

whole_in : (k : IntType) → InRange k (whole k)
whole_in k = by_between (InRange k) (least_of k) (greatest_of k) (λ o. (≤ℤ_refl (least_of k), ≤ℤ_refl (greatest_of k))) (λ o. tt)

wraps_in : (k : IntType) (a b : ℤ) → is_size k.bytes ≡ true → InRange k (between_or_empty (wrap_into k a) (wrap_into k b))
wraps_in k a b h = by_between (InRange k) (wrap_into k a) (wrap_into k b) (λ o. ((wrap_in k a h).0, (wrap_in k b h).1)) (λ o. tt)

pub wrapped_in : (k : IntType) (a b : ℤ) → is_size k.bytes ≡ true → InRange k (wrapped k a b)
wrapped_in k a b h = cond_both (int_eq (block_of k a) (block_of k b)) (between_or_empty (wrap_into k a) (wrap_into k b)) (whole k) (InRange k) (λ _. wraps_in k a b h) (λ _. whole_in k)

pub into_in : (k : IntType) (a b : ℤ) → is_size k.bytes ≡ true → InRange k (into k a b)
into_in k a b h = cond_both k.signed (clamped k a b) (wrapped k a b) (InRange k) (λ _. clamped_in k a b) (λ _. wrapped_in k a b h)

met_in : (k : IntType) (x : Interval) → InRange k (met k x)
met_in k Bottom = tt
met_in k (Of s) = clamped_in k s.lo s.hi

with_bits_in : (k : IntType) (n : ℕ) → is_size k.bytes ≡ true → InRange k (with_bits k n)
with_bits_in k n h = wraps_in k (pos n) (pos n) h

and_bound_in : (k : IntType) (s t : Span) → InRange k (and_bound k s t)
and_bound_in k s t = cond_both (int_le (pos 0) s.lo) _ _ (InRange k)
    (λ _. cond_both (int_le (pos 0) t.lo) (clamped k (pos 0) (int_min s.hi t.hi)) (clamped k (pos 0) s.hi) (InRange k) (λ _. clamped_in k _ _) (λ _. clamped_in k _ _))
    (λ _. cond_both (int_le (pos 0) t.lo) (clamped k (pos 0) t.hi) (whole k) (InRange k) (λ _. clamped_in k _ _) (λ _. whole_in k))

or_bound_in : (k : IntType) (s t : Span) → InRange k (or_bound k s t)
or_bound_in k s t = cond_both (int_le (pos 0) s.lo && int_le (pos 0) t.lo) _ (whole k) (InRange k) (λ _. clamped_in k _ _) (λ _. whole_in k)

bits_or_bound_in : (k : IntType) (b : Bool) (n : ℕ) (x : Interval) → is_size k.bytes ≡ true → InRange k x → InRange k (cond b (with_bits k n) x)
bits_or_bound_in k b n x h p = cond_both b (with_bits k n) x (InRange k) (λ _. with_bits_in k n h) (λ _. p)

bitwise_in : (k : IntType) (s t : Span) (n : ℕ) (x : Interval) → is_size k.bytes ≡ true → InRange k x → InRange k (if_of_type k s t (cond (are_single s t) (with_bits k n) x))
bitwise_in k s t n x h p = cond_both (is_of_type k s && is_of_type k t) (cond (are_single s t) (with_bits k n) x) (whole k) (InRange k) (λ _. bits_or_bound_in k (are_single s t) n x h p) (λ _. whole_in k)

remainder_in : (k : IntType) (a b : ℤ) → InRange k (remainder k a b)
remainder_in k a b = cond_both (k.signed && (int_eq a (least_of k) && int_eq b (negsuc 0))) Bottom _ (InRange k) (λ _. tt) (λ _. clamped_in k _ _)

remainders_in : (k : IntType) (s : Span) (y : Interval) → InRange k (remainders_by k s y)
remainders_in k s Bottom = tt
remainders_in k s (Of t) = cond_both (is_single s && is_single t) (remainder k s.lo t.lo) _ (InRange k) (λ _. remainder_in k s.lo t.lo)
    (λ _. cond_both (int_lt (greatest_size s) (least_size t)) (clamped k s.lo s.hi) (towards_zero k s (greatest_size t -ℤ pos 1)) (InRange k) (λ _. clamped_in k _ _) (λ _. clamped_in k _ _))

scaled_in : (k : IntType) (x y : Interval) → is_size k.bytes ≡ true → InRange k (scaled_by k x y)
scaled_in k Bottom y h = tt
scaled_in k (Of s) Bottom h = tt
scaled_in k (Of s) (Of t) h = into_in k _ _ h

arith_in : (op : IntOp) (k : IntType) (s t : Span) → is_size k.bytes ≡ true → InRange k (arith_spans op k s t)
arith_in Add k s t h = into_in k _ _ h
arith_in Sub k s t h = into_in k _ _ h
arith_in Mul k s t h = into_in k _ _ h
arith_in Div k s t h = met_in k _
arith_in Rem k s t h = remainders_in k s (without_zero t)
arith_in And k s t h = bitwise_in k s t (bit_and (bits_in k s.lo) (bits_in k t.lo)) (and_bound k s t) h (and_bound_in k s t)
arith_in Or k s t h = bitwise_in k s t (bit_or (bits_in k s.lo) (bits_in k t.lo)) (or_bound k s t) h (or_bound_in k s t)
arith_in Xor k s t h = bitwise_in k s t (bit_xor (bits_in k s.lo) (bits_in k t.lo)) (or_bound k s t) h (or_bound_in k s t)
arith_in Shl k s t h = scaled_in k _ _ h
arith_in Shr k s t h = met_in k _

arith_both_in : (op : IntOp) (x y : Interval) (k : IntType) → is_size k.bytes ≡ true → InRange k (interval_arith op x y k)
arith_both_in op Bottom y k h = tt
arith_both_in op (Of s) Bottom k h = tt
arith_both_in op (Of s) (Of t) k h = arith_in op k s t h

unary_in : (op : UnOp) (x : Interval) (k : IntType) → is_size k.bytes ≡ true → InRange k (interval_unary op x k)
unary_in op Bottom k h = tt
unary_in Neg (Of s) k h = into_in k _ _ h
unary_in Compl (Of s) k h = clamped_in k _ _

convert_in : (x : Interval) (k : IntType) → is_size k.bytes ≡ true → InRange k (interval_convert x k)
convert_in Bottom k h = tt
convert_in (Of s) k h = wrapped_in k s.lo s.hi h

bounds_in : (k : IntType) (x : Interval) (a b : ℤ) → InRange k x → interval_bounds x ≡ Some (a, b) → (least_of k ≤ℤ a) × (b ≤ℤ greatest_of k)
bounds_in k Bottom a b h e = cc
bounds_in k (Of s) a b h e = (subst (λ n. least_of k ≤ℤ n) (ap first_of e) h.0, subst (λ n. n ≤ℤ greatest_of k) (ap second_of e) h.1)

-- ---- refining only takes away

narrower : (s : Span) (a b : ℤ) → s.lo ≤ℤ a → b ≤ℤ s.hi → interval_leq (between_or_empty a b) (Of s) ≡ true
narrower s a b h k = by_between (λ x. interval_leq x (Of s) ≡ true) a b (λ o. grind (arith, ints)) (λ _. refl)

raised_end : (a n : ℤ) → a ≤ℤ cond (int_eq a n) (a +ℤ pos 1) a
raised_end a n = cond_both (int_eq a n) (a +ℤ pos 1) a (λ m. a ≤ℤ m) (λ _. omega (arith, ints)) (λ _. ≤ℤ_refl a)

lowered_end : (a n : ℤ) → cond (int_eq a n) (a -ℤ pos 1) a ≤ℤ a
lowered_end a n = cond_both (int_eq a n) (a -ℤ pos 1) a (λ m. m ≤ℤ a) (λ _. omega (arith, ints)) (λ _. ≤ℤ_refl a)

refined_below : (rel : Rel) (s t : Span) → interval_leq (refined rel s t) (Of s) ≡ true
refined_below Lt s t = narrower s _ _ (≤ℤ_refl s.lo) (omega (arith, ints, clamps))
refined_below Le s t = narrower s _ _ (≤ℤ_refl s.lo) (omega (arith, ints, clamps))
refined_below Gt s t = narrower s _ _ (omega (arith, ints, clamps)) (≤ℤ_refl s.hi)
refined_below Ge s t = narrower s _ _ (omega (arith, ints, clamps)) (≤ℤ_refl s.hi)
refined_below Eq s t = narrower s _ _ (omega (arith, ints, clamps)) (omega (arith, ints, clamps))
refined_below Ne s t = cond_both (int_eq t.lo t.hi) (without_end s t.lo) (Of s) (λ x. interval_leq x (Of s) ≡ true) (λ _. narrower s _ _ (raised_end s.lo t.lo) (lowered_end s.hi t.lo)) (λ _. leq_reflexive (Of s))

refine_below : (rel : Rel) (x y : Interval) → interval_leq (interval_refine rel x y) x ≡ true
refine_below rel Bottom y = refl
refine_below rel (Of s) Bottom = refl
refine_below rel (Of s) (Of t) = refined_below rel s t

pub interval_ranges : RangeLaws interval_lattice interval_numbers
interval_ranges = record {
  arith_fits = λ op x y k a b h e. bounds_in k (interval_arith op x y k) a b (arith_both_in op x y k h) e;
  unary_fits = λ op x k a b h e. bounds_in k (interval_unary op x k) a b (unary_in op x k h) e;
  convert_fits = λ x k a b h e. bounds_in k (interval_convert x k) a b (convert_in x k h) e;
  refine_below = refine_below;
}

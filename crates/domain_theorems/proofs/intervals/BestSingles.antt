-- The best results of two single numbers.
use Rattle.std.specs.Prelude.{◌≡◌, ◌*◌, ℕ, ℤ, pos, negsuc, ◌-ℤ◌, ◌*ℤ◌, ◌≤ℤ◌, Bool, true, false, cond, ◌&&◌, int_div, int_rem, int_le, int_lt, Some, None, refl}
use Rattle.std.specs.Int.{int_min, int_max}
use Rattle.std.specs.Ordering.{int_eq}
use Rattle.std.proofs.Common.{arith, ap₂, sym, subst, subst₂, ◌∙◌}
use Rattle.std.proofs.lemmas.Int.{ints, clamps}
use Rattle.std.proofs.lemmas.Bool.{cond_both, and_from, and_parts}
use Rattle.std.proofs.lemmas.Bool.Decides.{Decides-int_eq}
use lib.Signed.{≤ℤ_refl}
use Rattle.cc_base.specs.IntegerTypes.{is_size, in_type, greatest_of, wrap_into}
use Rattle.cc_base.specs.MachineArithmetic.{result_of, binary_result, is_count, is_quotient_overflow}
use Rattle.cc_base.specs.declared.int_types.IntType.{IntType}
use Rattle.cc_base.specs.declared.integer_operators.IntOp.{IntOp}
use Rattle.cc_base.specs.declared.integer_operators.IntOp.TheVariants.{Add, Sub, Mul, Div, Rem, And, Or, Xor, Shl, Shr}
use Rattle.interval_domain.specs.declared.intervals.spans.Span.{Span}
use Rattle.interval_domain.specs.declared.intervals.intervals.Interval.{Interval}
use Rattle.interval_domain.specs.declared.intervals.intervals.Interval.TheVariants.{Bottom, Of}
use Rattle.interval_domain.specs.Intervals.Spans.{between_or_empty, by_between, between_some, between_none, Stands}
use Rattle.interval_domain.specs.Intervals.IntervalOrder.{interval_leq, interval_join, leq_transitive}
use Rattle.interval_domain.specs.Intervals.Arithmetic.{into, clamped, met, products, quotients, quotients_by, remainder, remainders, remainders_by, if_of_type, with_bits, and_bound, or_bound, is_of_type, is_single, are_single, scaled, scaled_by, shifted_left, counts, arith_spans}
use Rattle.interval_domain.specs.Intervals.Best.{GivesOfTwo, true_le, into_best, sums_best, differences_best}
use Rattle.domain_theorems.specs.Intervals.BestResults.{IsBest, are_operands}
use Rattle.domain_theorems.specs.Intervals.Kit.{single_below, clamped_single_below, met_monotone}
use Rattle.domain_theorems.specs.Intervals.Quotients.{below_zero, above_zero}
use Rattle.domain_theorems.specs.Intervals.Operations.{spans_stand}
use Rattle.domain_theorems.proofs.intervals.Single.{only, is_only, only_single, has_only, at_lo, number_of_type}
use Rattle.domain_theorems.proofs.intervals.BestResults.{joined_least, quotient_comes, right_shifts_best}

-- y has what the operator gives for the two numbers
abbrev HasResult : IntOp → IntType → ℤ → ℤ → Interval → Type 0
HasResult op k a b y = (z : ℤ) → binary_result op k a b ≡ Some z → Stands y z

-- ---- * and <<

-- one mathematical result
into_single : (k : IntType) (v lo hi : ℤ) (y : Interval) → is_size k.bytes ≡ true → lo ≡ v → hi ≡ v → ((z : ℤ) → result_of k v ≡ Some z → Stands y z) → interval_leq (into k lo hi) y ≡ true
into_single k v lo hi y h e d f =
    (into_best k lo hi h (let c = ≤ℤ_refl v in omega (arith, ints))).least y (λ z g.
    let l = g.lower in
    let u = g.upper in
    let c : g.from ≡ v = omega (arith, ints) in
    f z (subst (λ x. result_of k x ≡ Some z) c g.gives))

product_least : (k : IntType) (a b : ℤ) (y : Interval) → is_size k.bytes ≡ true → HasResult Mul k a b y → interval_leq (products k (only a) (only b)) y ≡ true
product_least k a b y h f = into_single k (a *ℤ b) _ _ y h (omega (arith, ints, clamps)) (omega (arith, ints, clamps)) f

shift_gives : (k : IntType) (a b z : ℤ) (below : Bool) → is_count k b ≡ true → int_lt a (pos 0) ≡ below → pos 0 ≤ℤ a → result_of k (scaled a b) ≡ Some z → cond (is_count k b) (cond below None (result_of k (scaled a b))) None ≡ Some z
shift_gives k a b z true c e n g = absurd (grind (arith, ints))
shift_gives k a b z false c e n g = subst (λ x. cond x (result_of k (scaled a b)) None ≡ Some z) (sym c) g

true_lt : (a b : ℤ) → a ≤ℤ (b -ℤ pos 1) → int_lt a b ≡ true
true_lt a b h = grind (arith, ints)

left_shift_least : (k : IntType) (a b : ℤ) (y : Interval) → is_size k.bytes ≡ true → HasResult Shl k a b y → interval_leq (shifted_left k (only a) (only b)) y ≡ true
left_shift_least k a b y h f =
    by_between (λ x. interval_leq (scaled_by k x (counts k (only b))) y ≡ true) (int_max a (pos 0)) (int_min a (greatest_of k))
    (λ (o : int_max a (pos 0) ≤ℤ int_min a (greatest_of k)).
    by_between (λ x. interval_leq (scaled_by k (Of (record { lo = int_max a (pos 0); hi = int_min a (greatest_of k); ordered = o })) x) y ≡ true) (int_max b (pos 0)) (int_min b (pos (8 * k.bytes) -ℤ pos 1))
    (λ (r : int_max b (pos 0) ≤ℤ int_min b (pos (8 * k.bytes) -ℤ pos 1)).
    let c : is_count k b ≡ true = and_from (int_le (pos 0) b) (int_lt b (pos (8 * k.bytes))) (true_le (pos 0) b (omega (arith, ints, clamps))) (true_lt b (pos (8 * k.bytes)) (omega (arith, ints, clamps))) in
    let d : int_max a (pos 0) ≡ a = omega (arith, ints, clamps) in
    let e : int_min a (greatest_of k) ≡ a = omega (arith, ints, clamps) in
    let d' : int_max b (pos 0) ≡ b = omega (arith, ints, clamps) in
    let e' : int_min b (pos (8 * k.bytes) -ℤ pos 1) ≡ b = omega (arith, ints, clamps) in
    into_single k (scaled a b) _ _ y h (ap₂ scaled d d') (ap₂ scaled e e') (λ z g. f z (shift_gives k a b z (int_lt a (pos 0)) c refl (omega (arith, ints, clamps)) g)))
    (λ _. refl))
    (λ _. refl)

-- ---- /

abbrev joined : ℤ → ℤ → Interval
joined a b = interval_join (quotients_by (only a) (below_zero (only b))) (quotients_by (only a) (above_zero (only b)))

met_single : (k : IntType) (q : ℤ) (y : Interval) → (in_type k q ≡ true → Stands y q) → interval_leq (met k (between_or_empty q q)) y ≡ true
met_single k q y f = subst (λ x. interval_leq (met k x) y ≡ true) (sym (between_some q q (≤ℤ_refl q))) (clamped_single_below k q y f)

quotient_at : (k : IntType) (a b : ℤ) (y : Interval) (zero : Bool) → int_eq b (pos 0) ≡ zero → HasResult Div k a b y → interval_leq (met k (joined a b)) y ≡ true
quotient_at k a b y true e f = leq_transitive (met k (joined a b)) Bottom y
    (met_monotone k (joined a b) Bottom (joined_least (only a) (only b) Bottom (λ c d n p q. n (has_only b d q ∙ (Decides-int_eq b (pos 0)).0 e)))) refl
quotient_at k a b y false e f =
    let n : b ≡ pos 0 → ⊥ = λ (o : b ≡ pos 0). let t = (Decides-int_eq b (pos 0)).1 o in let u : true ≡ false = sym t ∙ e in cc in
    let one : interval_leq (joined a b) (between_or_empty (int_div a b) (int_div a b)) ≡ true = joined_least (only a) (only b) (between_or_empty (int_div a b) (int_div a b)) (λ c d m p q.
    let c' = has_only a c p in
    let d' = has_only b d q in
    subst (λ x. Stands x (int_div c d)) (sym (between_some (int_div a b) (int_div a b) (≤ℤ_refl (int_div a b)))) (let w : int_div c d ≡ int_div a b = ap₂ int_div c' d' in (omega (arith, ints), omega (arith, ints)))) in
    leq_transitive (met k (joined a b)) (met k (between_or_empty (int_div a b) (int_div a b))) y
    (met_monotone k (joined a b) (between_or_empty (int_div a b) (int_div a b)) one)
    (met_single k (int_div a b) y (λ i. f (int_div a b) (quotient_comes k a b n i)))

quotient_least : (k : IntType) (a b : ℤ) (y : Interval) → HasResult Div k a b y → interval_leq (quotients k (only a) (only b)) y ≡ true
quotient_least k a b y f = quotient_at k a b y (int_eq b (pos 0)) refl f

-- ---- %

both_single : (a b : ℤ) → (is_single (only a) && is_single (only b)) ≡ true
both_single a b = and_from (int_eq a a) (int_eq b b) (only_single a) (only_single b)

cond_true : (b : Bool) (x y z : Interval) → b ≡ true → interval_leq x z ≡ true → interval_leq (cond b x y) z ≡ true
cond_true true x y z e h = h
cond_true false x y z e h = cc

remainder_gives : (k : IntType) (a b : ℤ) (zero over : Bool) → zero ≡ false → over ≡ false → cond zero None (cond over None (Some (int_rem a b))) ≡ Some (int_rem a b)
remainder_gives k a b true over e d = cc
remainder_gives k a b false true e d = cc
remainder_gives k a b false false e d = refl

remainder_below : (k : IntType) (a b : ℤ) (y : Interval) → int_eq b (pos 0) ≡ false → HasResult Rem k a b y → interval_leq (remainder k a b) y ≡ true
remainder_below k a b y e f = cond_both (is_quotient_overflow k a b) Bottom (clamped k (int_rem a b) (int_rem a b)) (λ x. interval_leq x y ≡ true)
    (λ _. refl)
    (λ o. clamped_single_below k (int_rem a b) y (λ i. f (int_rem a b) (remainder_gives k a b (int_eq b (pos 0)) (is_quotient_overflow k a b) e o)))

remainder_at : (k : IntType) (a b : ℤ) (y : Interval) (zero : Bool) → int_eq b (pos 0) ≡ zero → HasResult Rem k a b y → interval_leq (remainders_by k (only a) (between_or_empty (cond zero (pos 1) b) (cond zero (negsuc 0) b))) y ≡ true
remainder_at k a b y true e f = subst (λ x. interval_leq (remainders_by k (only a) x) y ≡ true) (sym (between_none (pos 1) (negsuc 0) (omega (arith, ints)))) refl
remainder_at k a b y false e f = subst (λ x. interval_leq (remainders_by k (only a) x) y ≡ true) (sym (between_some b b (≤ℤ_refl b)))
    (cond_true (is_single (only a) && is_single (only b)) _ _ y (both_single a b) (remainder_below k a b y e f))

remainder_least : (k : IntType) (a b : ℤ) (y : Interval) → HasResult Rem k a b y → interval_leq (remainders k (only a) (only b)) y ≡ true
remainder_least k a b y f = remainder_at k a b y (int_eq b (pos 0)) refl f

-- ---- & | ^

bits_least : (k : IntType) (a b : ℤ) (n : ℕ) (x y : Interval) → (is_of_type k (only a) && is_of_type k (only b)) ≡ true → Stands y (wrap_into k (pos n))
    → interval_leq (if_of_type k (only a) (only b) (cond (are_single (only a) (only b)) (with_bits k n) x)) y ≡ true
bits_least k a b n x y i h = cond_true (is_of_type k (only a) && is_of_type k (only b)) _ _ y i
    (cond_true (are_single (only a) (only b)) _ _ y (both_single a b) (single_below (wrap_into k (pos n)) y h))

-- ---- all operators

module _ (k : IntType) (a b : ℤ) (h : is_size k.bytes ≡ true) where
  -- y has each number that comes of the two, and so the one that the operator gives
  abbrev HasAll : IntOp → Interval → Type 0
  HasAll op y = (z : ℤ) → GivesOfTwo (binary_result op k) (only a) (only b) z → Stands y z

  one_of : (op : IntOp) (y : Interval) → HasAll op y → HasResult op k a b y
  one_of op y f z e = f z (record { left = a; right = b; of_left = at_lo (only a); of_right = at_lo (only b); gives = e })

  singles_least : (op : IntOp) → are_operands op k (only a) (only b) ≡ true → (y : Interval) → HasAll op y → interval_leq (arith_spans op k (only a) (only b)) y ≡ true
  singles_least Add i y f = (sums_best k (only a) (only b) h).least y f
  singles_least Sub i y f = (differences_best k (only a) (only b) h).least y f
  singles_least Mul i y f = product_least k a b y h (one_of Mul y f)
  singles_least Div i y f = quotient_least k a b y (one_of Div y f)
  singles_least Rem i y f = remainder_least k a b y (one_of Rem y f)
  singles_least And i y f = bits_least k a b _ (and_bound k (only a) (only b)) y i (one_of And y f _ refl)
  singles_least Or i y f = bits_least k a b _ (or_bound k (only a) (only b)) y i (one_of Or y f _ refl)
  singles_least Xor i y f = bits_least k a b _ (or_bound k (only a) (only b)) y i (one_of Xor y f _ refl)
  singles_least Shl i y f = left_shift_least k a b y h (one_of Shl y f)
  singles_least Shr i y f = (right_shifts_best k (only a) (only b) h i).least y f

left_of_type : (op : IntOp) (k : IntType) (s t : Span) → are_operands op k s t ≡ true → is_of_type k s ≡ true
left_of_type Add k s t i = (and_parts (is_of_type k s) (is_of_type k t) i).0
left_of_type Sub k s t i = (and_parts (is_of_type k s) (is_of_type k t) i).0
left_of_type Mul k s t i = (and_parts (is_of_type k s) (is_of_type k t) i).0
left_of_type Div k s t i = (and_parts (is_of_type k s) (is_of_type k t) i).0
left_of_type Rem k s t i = (and_parts (is_of_type k s) (is_of_type k t) i).0
left_of_type And k s t i = (and_parts (is_of_type k s) (is_of_type k t) i).0
left_of_type Or k s t i = (and_parts (is_of_type k s) (is_of_type k t) i).0
left_of_type Xor k s t i = (and_parts (is_of_type k s) (is_of_type k t) i).0
left_of_type Shl k s t i = i
left_of_type Shr k s t i = i

best_of_only : (op : IntOp) (k : IntType) (a b : ℤ) → is_size k.bytes ≡ true → are_operands op k (only a) (only b) ≡ true → IsBest op k (only a) (only b)
best_of_only op k a b h i = record {
  holds = λ z g. spans_stand op k (only a) (only b) g.left g.right z h g.of_left g.of_right (number_of_type k (only a) g.left (left_of_type op k (only a) (only b) i) g.of_left) g.gives;
  least = λ y f. singles_least k a b h op i y f;
}

pub singles_best : (op : IntOp) (k : IntType) (s t : Span) → is_size k.bytes ≡ true → are_single s t ≡ true → are_operands op k s t ≡ true → IsBest op k s t
singles_best op k s t h e =
    let p = and_parts (is_single s) (is_single t) e in
    subst₂ (λ u v. are_operands op k u v ≡ true → IsBest op k u v) (sym (is_only s p.0)) (sym (is_only t p.1)) (best_of_only op k s.lo t.lo h)

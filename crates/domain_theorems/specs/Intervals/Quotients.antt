-- Quotients.
use Rattle.std.specs.Prelude.{◌≡◌, ℕ, zero, suc, ℤ, pos, negsuc, ◌≤ℤ◌, ◌<ℤ◌, Bool, true, false, cond, int_div, Some, None, refl}
use Rattle.std.specs.Int.{int_min, int_max}
use Rattle.std.specs.Ordering.{int_eq}
use Rattle.std.proofs.Common.{arith, sym, subst, ◌∙◌, inl, inr}
use Rattle.std.proofs.lemmas.Int.{ints, clamps}
use Rattle.std.proofs.lemmas.Bool.{cases_Bool}
use Rattle.std.proofs.lemmas.Bool.Decides.{Decides-int_eq}
use Rattle.cc_base.specs.IntegerTypes.{in_type}
use Rattle.cc_base.specs.MachineArithmetic.{in_or_stop, binary_result}
use Rattle.cc_base.specs.declared.int_types.IntType.{IntType}
use Rattle.cc_base.specs.declared.integer_operators.IntOp.TheVariants.{Div}
use Rattle.interval_domain.specs.declared.intervals.spans.Span.{Span}
use Rattle.interval_domain.specs.declared.intervals.intervals.Interval.{Interval}
use Rattle.interval_domain.specs.declared.intervals.intervals.Interval.TheVariants.{Bottom, Of}
use Rattle.interval_domain.specs.Intervals.Spans.{between_or_empty, Stands}
use Rattle.interval_domain.specs.Intervals.IntervalOrder.{interval_leq, interval_join, leq_join_left, leq_join_right, leq_stands}
use Rattle.interval_domain.specs.Intervals.Arithmetic.{quotients, quotients_by, IsApart}
use Rattle.interval_domain.specs.Intervals.Best.{stands_between}
use Rattle.interval_domain.proofs.intervals.Made.{is_below, is_above}
use Rattle.domain_theorems.specs.Intervals.Kit.{rises, falls, some_same, Within, within, between_monotone, met_monotone, met_stands, join_monotone}
use Rattle.domain_theorems.specs.Intervals.Corners.{LiesAmong, among_rising, among_falling, HasExtremesAtEnds, corners_monotone, corners_stands}

-- ---- dividends

dividend_rises : (x y : ℤ) (m : ℕ) → x ≤ℤ y → int_div x (pos (suc m)) ≤ℤ int_div y (pos (suc m))
dividend_rises (pos a) (pos b) m h = let r = rises a b (suc m) (omega arith) (omega (arith, ints)) in omega (arith, ints)
dividend_rises (pos a) (negsuc b) m h = absurd (omega (arith, ints))
dividend_rises (negsuc a) (pos b) m h = omega (arith, ints)
dividend_rises (negsuc a) (negsuc b) m h = let r = rises (suc b) (suc a) (suc m) (omega arith) (omega (arith, ints)) in omega (arith, ints)

dividend_falls : (x y : ℤ) (m : ℕ) → x ≤ℤ y → int_div y (negsuc m) ≤ℤ int_div x (negsuc m)
dividend_falls (pos a) (pos b) m h = let r = rises a b (suc m) (omega arith) (omega (arith, ints)) in omega (arith, ints)
dividend_falls (pos a) (negsuc b) m h = absurd (omega (arith, ints))
dividend_falls (negsuc a) (pos b) m h = omega (arith, ints)
dividend_falls (negsuc a) (negsuc b) m h = let r = rises (suc b) (suc a) (suc m) (omega arith) (omega (arith, ints)) in omega (arith, ints)

-- ---- divisors on one side of zero

divisor_above : (a x y z : ℤ) → pos 0 <ℤ x → x ≤ℤ y → y ≤ℤ z → LiesAmong (int_div a x) (int_div a z) (int_div a y)
divisor_above (pos a) (pos x) (pos y) (pos z) h p q =
    let r = falls a x y (omega (arith, ints)) (omega (arith, ints)) in
    let t = falls a y z (omega (arith, ints)) (omega (arith, ints)) in
    among_falling _ _ _ (omega (arith, ints)) (omega (arith, ints))
divisor_above (negsuc a) (pos x) (pos y) (pos z) h p q =
    let r = falls (suc a) x y (omega (arith, ints)) (omega (arith, ints)) in
    let t = falls (suc a) y z (omega (arith, ints)) (omega (arith, ints)) in
    among_rising _ _ _ (omega (arith, ints)) (omega (arith, ints))
divisor_above a (negsuc x) y z h p q = absurd (omega (arith, ints))
divisor_above a (pos x) (negsuc y) z h p q = absurd (omega (arith, ints))
divisor_above a (pos x) (pos y) (negsuc z) h p q = absurd (omega (arith, ints))

divisor_below : (a x y z : ℤ) → z <ℤ pos 0 → x ≤ℤ y → y ≤ℤ z → LiesAmong (int_div a x) (int_div a z) (int_div a y)
divisor_below (pos a) (negsuc x) (negsuc y) (negsuc z) h p q =
    let r = falls a (suc y) (suc x) (omega arith) (omega (arith, ints)) in
    let t = falls a (suc z) (suc y) (omega arith) (omega (arith, ints)) in
    among_falling _ _ _ (omega (arith, ints)) (omega (arith, ints))
divisor_below (negsuc a) (negsuc x) (negsuc y) (negsuc z) h p q =
    let r = falls (suc a) (suc y) (suc x) (omega arith) (omega (arith, ints)) in
    let t = falls (suc a) (suc z) (suc y) (omega arith) (omega (arith, ints)) in
    among_rising _ _ _ (omega (arith, ints)) (omega (arith, ints))
divisor_below a x y (pos z) h p q = absurd (omega (arith, ints))
divisor_below a x (pos y) (negsuc z) h p q = absurd (omega (arith, ints))
divisor_below a (pos x) (negsuc y) (negsuc z) h p q = absurd (omega (arith, ints))

dividend_among : (x y a b : ℤ) → (b ≡ pos 0 → ⊥) → x ≤ℤ a → a ≤ℤ y → LiesAmong (int_div x b) (int_div y b) (int_div a b)
dividend_among x y a (pos zero) n p q = absurd (n refl)
dividend_among x y a (pos (suc m)) n p q = among_rising _ _ _ (dividend_rises x a m p) (dividend_rises a y m q)
dividend_among x y a (negsuc m) n p q = among_falling _ _ _ (dividend_falls a y m q) (dividend_falls x a m p)

quotients_at_ends : (s t : Span) → IsApart (Of t) → HasExtremesAtEnds int_div s t
quotients_at_ends s t (inl h) = record {
  left = λ a b p q. dividend_among s.lo s.hi a b (λ (e : b ≡ pos 0). omega (arith, ints)) p.0 p.1;
  right = λ a b p q. divisor_below a t.lo b t.hi h q.0 q.1;
}
quotients_at_ends s t (inr h) = record {
  left = λ a b p q. dividend_among s.lo s.hi a b (λ (e : b ≡ pos 0). omega (arith, ints)) p.0 p.1;
  right = λ a b p q. divisor_above a t.lo b t.hi h q.0 q.1;
}

-- ---- by one side

by_monotone : (s u : Span) (x y : Interval) → Within s u → interval_leq x y ≡ true → IsApart y → interval_leq (quotients_by s x) (quotients_by u y) ≡ true
by_monotone s u Bottom y w h a = refl
by_monotone s u (Of t) Bottom w h a = cc
by_monotone s u (Of t) (Of v) w h a = corners_monotone int_div s t u v (quotients_at_ends u v a) w (within t v h)

by_stands : (s : Span) (y : Interval) (a b : ℤ) → IsApart y → Stands (Of s) a → Stands y b → Stands (quotients_by s y) (int_div a b)
by_stands s Bottom a b h p q = absurd q
by_stands s (Of t) a b h p q = corners_stands int_div s t a b (quotients_at_ends s t h) p q

-- ---- by both

abbrev pub below_zero : Span → Interval
below_zero t = between_or_empty t.lo (int_min t.hi (negsuc 0))

abbrev pub above_zero : Span → Interval
above_zero t = between_or_empty (int_max t.lo (pos 1)) t.hi

below_apart : (t : Span) → IsApart (below_zero t)
below_apart t = is_below (below_zero t) t.lo (int_min t.hi (negsuc 0)) refl (omega (arith, ints, clamps))

above_apart : (t : Span) → IsApart (above_zero t)
above_apart t = is_above (above_zero t) (int_max t.lo (pos 1)) t.hi refl (omega (arith, ints, clamps))

pub quotients_monotone : (k : IntType) (s t u v : Span) → Within s u → Within t v → interval_leq (quotients k s t) (quotients k u v) ≡ true
quotients_monotone k s t u v w x =
    let x' = x.lower in
    let x'' = x.upper in
    met_monotone k _ _ (join_monotone (quotients_by s (below_zero t)) (quotients_by s (above_zero t)) (quotients_by u (below_zero v)) (quotients_by u (above_zero v))
    (by_monotone s u (below_zero t) (below_zero v) w (between_monotone _ _ _ _ x' (omega (arith, ints, clamps))) (below_apart v))
    (by_monotone s u (above_zero t) (above_zero v) w (between_monotone _ _ _ _ (omega (arith, ints, clamps)) x'') (above_apart v)))

joined_stands : (s t : Span) (a b : ℤ) → (b ≡ pos 0 → ⊥) → Stands (Of s) a → Stands (Of t) b → Stands (interval_join (quotients_by s (below_zero t)) (quotients_by s (above_zero t))) (int_div a b)
joined_stands s t a (pos zero) n p q = absurd (n refl)
joined_stands s t a (pos (suc m)) n p q = leq_stands _ _ _ (leq_join_right (quotients_by s (below_zero t)) (quotients_by s (above_zero t)))
    (by_stands s (above_zero t) a (pos (suc m)) (above_apart t) p (stands_between _ _ _ (omega (arith, ints, clamps)) q.1))
joined_stands s t a (negsuc m) n p q = leq_stands _ _ _ (leq_join_left (quotients_by s (below_zero t)) (quotients_by s (above_zero t)))
    (by_stands s (below_zero t) a (negsuc m) (below_apart t) p (stands_between _ _ _ q.0 (omega (arith, ints, clamps))))

-- a quotient that comes is of the type, and its divisor is not zero
record Quotient (k : IntType) (a b c : ℤ) : Type 0 where
  divides : b ≡ pos 0 → ⊥
  is : int_div a b ≡ c
  fits : in_type k c ≡ true

pub goes_on : (k : IntType) (x z : ℤ) → in_or_stop k x ≡ Some z → (x ≡ z) × (in_type k z ≡ true)
goes_on k x z e = elim (cases_Bool (in_type k x)) [
  | inl t ↦ (let f : Some x ≡ Some z = subst (λ b. cond b (Some x) None ≡ Some z) t e in let g = some_same x z f in (g, subst (λ n. in_type k n ≡ true) g t))
  | inr t ↦ (let f : None ≡ Some z = subst (λ b. cond b (Some x) None ≡ Some z) t e in cc)
]

quotient_at : (k : IntType) (a b c : ℤ) (none : Bool) → int_eq b (pos 0) ≡ none → cond none None (in_or_stop k (int_div a b)) ≡ Some c → Quotient k a b c
quotient_at k a b c true z e = cc
quotient_at k a b c false z e =
    let g = goes_on k (int_div a b) c e in
    record { divides = λ (o : b ≡ pos 0). let t = (Decides-int_eq b (pos 0)).1 o in let u : true ≡ false = sym t ∙ z in cc; is = g.0; fits = g.1 }

pub quotients_stands : (k : IntType) (s t : Span) (a b c : ℤ) → Stands (Of s) a → Stands (Of t) b → binary_result Div k a b ≡ Some c → Stands (quotients k s t) c
quotients_stands k s t a b c p q e =
    let g = quotient_at k a b c (int_eq b (pos 0)) refl e in
    met_stands k _ c (subst (Stands (interval_join (quotients_by s (below_zero t)) (quotients_by s (above_zero t)))) g.is (joined_stands s t a b g.divides p q)) g.fits

-- The best results: products and quotients that are all of the type, shifts to the right, complements.
use Rattle.std.specs.Prelude.{◌≡◌, ◌*◌, ℤ, pos, negsuc, ◌-ℤ◌, ◌*ℤ◌, ◌≤ℤ◌, Bool, true, false, cond, int_div, int_le, int_lt, Some, None, refl}
use Rattle.std.specs.Int.{int_min, int_max}
use Rattle.std.specs.Ordering.{int_eq}
use Rattle.std.proofs.Common.{arith, ap, sym, subst, ◌∙◌}
use Rattle.std.proofs.lemmas.Int.{ints, clamps}
use Rattle.std.proofs.lemmas.Bool.{and_from}
use Rattle.std.proofs.lemmas.Bool.Decides.{Decides-int_eq}
use Rattle.cc_base.specs.IntegerTypes.{is_size, in_type, least_of, greatest_of, wrap_into}
use Rattle.cc_base.specs.MachineArithmetic.{in_or_stop, result_of, binary_result, unary_result, is_count}
use Rattle.cc_base.specs.declared.int_types.IntType.{IntType}
use Rattle.cc_base.specs.declared.integer_operators.IntOp.TheVariants.{Mul, Div, Shr}
use Rattle.cc_base.specs.declared.integer_operators.UnOp.TheVariants.{Compl}
use Rattle.interval_domain.specs.declared.intervals.spans.Span.{Span}
use Rattle.interval_domain.specs.declared.intervals.intervals.Interval.{Interval}
use Rattle.interval_domain.specs.declared.intervals.intervals.Interval.TheVariants.{Bottom, Of}
use Rattle.interval_domain.specs.Intervals.Spans.{Stands}
use Rattle.interval_domain.specs.Intervals.IntervalOrder.{interval_leq, interval_join, leq_join_least}
use Rattle.interval_domain.specs.Intervals.Arithmetic.{into, quotients_by, halved, halved_by, counts, is_of_type, unary_span}
use Rattle.interval_domain.specs.Intervals.Blocks.{least_of_four_is, greatest_of_four_is}
use Rattle.interval_domain.specs.Intervals.Best.{IsLeastWith, GivesOf, true_le, into_best}
use Rattle.domain_theorems.specs.Intervals.BestResults.{IsBest}
use Rattle.domain_theorems.specs.Intervals.Kit.{some_same, of_type}
use Rattle.domain_theorems.specs.Intervals.Corners.{low, high, low_high}
use Rattle.domain_theorems.specs.Intervals.Bits.{wrap_own}
use Rattle.domain_theorems.specs.Intervals.Products.{products_stands}
use Rattle.domain_theorems.specs.Intervals.Quotients.{below_zero, above_zero, quotients_stands}
use Rattle.domain_theorems.specs.Intervals.Shifts.{shifted_right_stands}
use Rattle.domain_theorems.specs.Intervals.Operations.{mirrored_stands}
use Rattle.domain_theorems.proofs.intervals.Single.{at_lo, at_hi, stands_among, between_has, number_of_type, clamped_least, met_below, corners_least}

-- ---- what the machine gives

at_true : (b : Bool) (z : ℤ) → b ≡ true → cond b (Some z) None ≡ Some z
at_true true z h = refl
at_true false z h = cc

pub goes_in : (k : IntType) (z : ℤ) → in_type k z ≡ true → in_or_stop k z ≡ Some z
goes_in k z h = at_true (in_type k z) z h

result_at : (k : IntType) (z : ℤ) (s : Bool) → in_type k z ≡ true → wrap_into k z ≡ z → cond s (in_or_stop k z) (Some (wrap_into k z)) ≡ Some z
result_at k z true h e = goes_in k z h
result_at k z false h e = ap Some e

-- a number of the type is its own result
pub own_result : (k : IntType) (z : ℤ) → is_size k.bytes ≡ true → in_type k z ≡ true → result_of k z ≡ Some z
own_result k z h i = let o = of_type k z i in result_at k z k.signed i (wrap_own k z h o.0 o.1)

past_zero : (b z : ℤ) (zero : Bool) → int_eq b (pos 0) ≡ zero → (b ≡ pos 0 → ⊥) → (k : IntType) → in_type k z ≡ true → cond zero None (in_or_stop k z) ≡ Some z
past_zero b z true e n k i = absurd (n ((Decides-int_eq b (pos 0)).0 e))
past_zero b z false e n k i = goes_in k z i

pub quotient_comes : (k : IntType) (a b : ℤ) → (b ≡ pos 0 → ⊥) → in_type k (int_div a b) ≡ true → binary_result Div k a b ≡ Some (int_div a b)
quotient_comes k a b n i = past_zero b (int_div a b) (int_eq b (pos 0)) refl n k i

pub shift_comes : (k : IntType) (a b : ℤ) → is_count k b ≡ true → binary_result Shr k a b ≡ Some (halved a b)
shift_comes k a b h = at_true (is_count k b) (halved a b) h

-- ---- *

pub into_least : (k : IntType) (a b : ℤ) (y : Interval) → is_size k.bytes ≡ true → a ≤ℤ b → in_type k a ≡ true → in_type k b ≡ true → Stands y a → Stands y b → interval_leq (into k a b) y ≡ true
into_least k a b y h o i j p q = (into_best k a b h o).least y (λ z g.
    let l = g.lower in
    let u = g.upper in
    let i' = of_type k a i in
    let j' = of_type k b j in
    let r : in_type k g.from ≡ true = and_from (int_le (least_of k) g.from) (int_le g.from (greatest_of k)) (true_le (least_of k) g.from (omega (arith, ints))) (true_le g.from (greatest_of k) (omega (arith, ints))) in
    let e : g.from ≡ z = some_same _ _ (sym (own_result k g.from h r) ∙ g.gives) in
    subst (Stands y) e (stands_among y a b g.from p q l u))

pub products_best : (k : IntType) (s t : Span) → is_size k.bytes ≡ true → ((a b : ℤ) → Stands (Of s) a → Stands (Of t) b → in_type k (a *ℤ b) ≡ true) → IsBest Mul k s t
products_best k s t h i = record {
  holds = λ z g. products_stands k s t g.left g.right z h g.of_left g.of_right g.gives;
  least = λ y f.
      let has : (a b : ℤ) → Stands (Of s) a → Stands (Of t) b → Stands y (a *ℤ b) = λ a b p q. f (a *ℤ b) (record { left = a; right = b; of_left = p; of_right = q; gives = own_result k (a *ℤ b) h (i a b p q) }) in
      into_least k (low (λ a b. a *ℤ b) s t) (high (λ a b. a *ℤ b) s t) y h (low_high (λ a b. a *ℤ b) s t)
      (least_of_four_is (λ z. in_type k z ≡ true) _ _ _ _ (i s.lo t.lo (at_lo s) (at_lo t)) (i s.lo t.hi (at_lo s) (at_hi t)) (i s.hi t.lo (at_hi s) (at_lo t)) (i s.hi t.hi (at_hi s) (at_hi t)))
      (greatest_of_four_is (λ z. in_type k z ≡ true) _ _ _ _ (i s.lo t.lo (at_lo s) (at_lo t)) (i s.lo t.hi (at_lo s) (at_hi t)) (i s.hi t.lo (at_hi s) (at_lo t)) (i s.hi t.hi (at_hi s) (at_hi t)))
      (least_of_four_is (Stands y) _ _ _ _ (has s.lo t.lo (at_lo s) (at_lo t)) (has s.lo t.hi (at_lo s) (at_hi t)) (has s.hi t.lo (at_hi s) (at_lo t)) (has s.hi t.hi (at_hi s) (at_hi t)))
      (greatest_of_four_is (Stands y) _ _ _ _ (has s.lo t.lo (at_lo s) (at_lo t)) (has s.lo t.hi (at_lo s) (at_hi t)) (has s.hi t.lo (at_hi s) (at_lo t)) (has s.hi t.hi (at_hi s) (at_hi t)));
}

-- ---- /

by_least : (s : Span) (x y : Interval) → ((a b : ℤ) → Stands (Of s) a → Stands x b → Stands y (int_div a b)) → interval_leq (quotients_by s x) y ≡ true
by_least s Bottom y f = refl
by_least s (Of t) y f = corners_least int_div s t y f

-- the quotients by both sides of zero, before what is not of the type is taken away
pub joined_least : (s t : Span) (y : Interval) → ((a b : ℤ) → (b ≡ pos 0 → ⊥) → Stands (Of s) a → Stands (Of t) b → Stands y (int_div a b))
    → interval_leq (interval_join (quotients_by s (below_zero t)) (quotients_by s (above_zero t))) y ≡ true
joined_least s t y f = leq_join_least (quotients_by s (below_zero t)) (quotients_by s (above_zero t)) y
    (by_least s (below_zero t) y (λ a b p q. let r = between_has t.lo (int_min t.hi (negsuc 0)) b q in f a b (λ (e : b ≡ pos 0). omega (arith, ints, clamps)) p (r.0, omega (arith, ints, clamps))))
    (by_least s (above_zero t) y (λ a b p q. let r = between_has (int_max t.lo (pos 1)) t.hi b q in f a b (λ (e : b ≡ pos 0). omega (arith, ints, clamps)) p (omega (arith, ints, clamps), r.1)))

pub quotients_best : (k : IntType) (s t : Span) → ((a b : ℤ) → Stands (Of s) a → Stands (Of t) b → (b ≡ pos 0 → ⊥) → in_type k (int_div a b) ≡ true) → IsBest Div k s t
quotients_best k s t i = record {
  holds = λ z g. quotients_stands k s t g.left g.right z g.of_left g.of_right g.gives;
  least = λ y f. met_below k _ y (joined_least s t y (λ a b n p q. f (int_div a b) (record { left = a; right = b; of_left = p; of_right = q; gives = quotient_comes k a b n (i a b p q n) })));
}

-- ---- >>

true_lt : (a b : ℤ) → a ≤ℤ (b -ℤ pos 1) → int_lt a b ≡ true
true_lt a b h = grind (arith, ints)

pub counted : (k : IntType) (t : Span) (b : ℤ) → Stands (counts k t) b → (is_count k b ≡ true) × Stands (Of t) b
counted k t b h =
    let r = between_has (int_max t.lo (pos 0)) (int_min t.hi (pos (8 * k.bytes) -ℤ pos 1)) b h in
    (and_from (int_le (pos 0) b) (int_lt b (pos (8 * k.bytes))) (true_le (pos 0) b (omega (arith, ints, clamps))) (true_lt b (pos (8 * k.bytes)) (omega (arith, ints, clamps))), (omega (arith, ints, clamps), omega (arith, ints, clamps)))

halved_least : (s : Span) (x y : Interval) → ((a b : ℤ) → Stands (Of s) a → Stands x b → Stands y (halved a b)) → interval_leq (halved_by s x) y ≡ true
halved_least s Bottom y f = refl
halved_least s (Of t) y f = corners_least halved s t y f

pub right_shifts_best : (k : IntType) (s t : Span) → is_size k.bytes ≡ true → is_of_type k s ≡ true → IsBest Shr k s t
right_shifts_best k s t h i = record {
  holds = λ z g. shifted_right_stands k s t g.left g.right z h g.of_left g.of_right (number_of_type k s g.left i g.of_left) g.gives;
  least = λ y f. met_below k _ y (halved_least s (counts k t) y (λ a b p q. let c = counted k t b q in f (halved a b) (record { left = a; right = b; of_left = p; of_right = c.1; gives = shift_comes k a b c.0 })));
}

-- ---- ~

pub complements_best : (k : IntType) (s : Span) → is_of_type k s ≡ true → IsLeastWith (GivesOf (unary_result Compl k) s) (unary_span Compl k s)
complements_best k s i = record {
  holds = λ z g. subst (Stands (unary_span Compl k s)) (some_same _ _ g.gives) (mirrored_stands k s g.number g.of (number_of_type k s g.number i g.of));
  least = λ y f. clamped_least k _ _ y (f _ (record { number = s.hi; of = at_hi s; gives = refl })) (f _ (record { number = s.lo; of = at_lo s; gives = refl }));
}

-- All operations are monotone, and stand for what the machine gives.
use Rattle.std.specs.Prelude.{◌≡◌, ℤ, neg_ℤ, ◌+ℤ◌, ◌-ℤ◌, true, Some, refl}
use Rattle.std.proofs.Common.{arith, subst}
use Rattle.std.proofs.lemmas.Int.{ints}
use Rattle.cc_base.specs.IntegerTypes.{is_size, in_type, least_of, greatest_of, wrap_into}
use Rattle.cc_base.specs.MachineArithmetic.{binary_result, unary_result}
use Rattle.cc_base.specs.IntegerLaws.{MonotoneLaws, SoundLaws}
use Rattle.cc_base.specs.declared.int_types.IntType.{IntType}
use Rattle.cc_base.specs.declared.integer_operators.IntOp.{IntOp}
use Rattle.cc_base.specs.declared.integer_operators.IntOp.TheVariants.{Add, Sub, Mul, Div, Rem, And, Or, Xor, Shl, Shr}
use Rattle.cc_base.specs.declared.integer_operators.UnOp.{UnOp}
use Rattle.cc_base.specs.declared.integer_operators.UnOp.TheVariants.{Neg, Compl}
use Rattle.interval_domain.specs.declared.intervals.spans.Span.{Span}
use Rattle.interval_domain.specs.declared.intervals.intervals.Interval.{Interval}
use Rattle.interval_domain.specs.declared.intervals.intervals.Interval.TheVariants.{Bottom, Of}
use Rattle.interval_domain.specs.Intervals.Spans.{Stands}
use Rattle.interval_domain.specs.Intervals.IntervalOrder.{interval_leq}
use Rattle.interval_domain.specs.Intervals.IntervalLattice.{interval_lattice}
use Rattle.interval_domain.specs.Intervals.IntervalNumbers.{interval_numbers}
use Rattle.interval_domain.specs.Intervals.Arithmetic.{arith_spans, interval_arith, unary_span, interval_unary, interval_convert}
use Rattle.interval_domain.specs.Intervals.Best.{conversions_best}
use Rattle.domain_theorems.specs.Intervals.Kit.{some_same, Within, within, within_stands, clamped_monotone, clamped_stands, into_monotone, into_stands, least_monotone, of_type, in_type_between}
use Rattle.domain_theorems.specs.Intervals.Products.{sums_monotone, sums_stands, differences_monotone, differences_stands, products_monotone, products_stands}
use Rattle.domain_theorems.specs.Intervals.Quotients.{quotients_monotone, quotients_stands}
use Rattle.domain_theorems.specs.Intervals.Remainders.{remainders_monotone, remainders_stands}
use Rattle.domain_theorems.specs.Intervals.Bits.{conjunctions_monotone, conjunctions_stands, disjunctions_monotone, disjunctions_stands, exclusives_monotone, exclusives_stands}
use Rattle.domain_theorems.specs.Intervals.Shifts.{shifted_left_monotone, shifted_left_stands, shifted_right_monotone, shifted_right_stands}
use Rattle.domain_theorems.specs.Intervals.Relations.{compare_monotone, compare_holds, compare_fails, compare_never, refine_monotone, refine_stands}

-- ---- larger operands

spans_monotone : (op : IntOp) (k : IntType) (s t u v : Span) → is_size k.bytes ≡ true → Within s u → Within t v → interval_leq (arith_spans op k s t) (arith_spans op k u v) ≡ true
spans_monotone Add k s t u v h w x = sums_monotone k s t u v h w x
spans_monotone Sub k s t u v h w x = differences_monotone k s t u v h w x
spans_monotone Mul k s t u v h w x = products_monotone k s t u v h w x
spans_monotone Div k s t u v h w x = quotients_monotone k s t u v w x
spans_monotone Rem k s t u v h w x = remainders_monotone k s t u v w x
spans_monotone And k s t u v h w x = conjunctions_monotone k s t u v h w x
spans_monotone Or k s t u v h w x = disjunctions_monotone k s t u v h w x
spans_monotone Xor k s t u v h w x = exclusives_monotone k s t u v h w x
spans_monotone Shl k s t u v h w x = shifted_left_monotone k s t u v h w x
spans_monotone Shr k s t u v h w x = shifted_right_monotone k s t u v w x

arith_monotone : (op : IntOp) (k : IntType) (x y u v : Interval) → is_size k.bytes ≡ true → interval_leq x u ≡ true → interval_leq y v ≡ true → interval_leq (interval_arith op x y k) (interval_arith op u v k) ≡ true
arith_monotone op k Bottom y u v h p q = refl
arith_monotone op k (Of s) Bottom u v h p q = refl
arith_monotone op k (Of s) (Of t) Bottom v h p q = cc
arith_monotone op k (Of s) (Of t) (Of u) Bottom h p q = cc
arith_monotone op k (Of s) (Of t) (Of u) (Of v) h p q = spans_monotone op k s t u v h (within s u p) (within t v q)

span_monotone : (op : UnOp) (k : IntType) (s u : Span) → is_size k.bytes ≡ true → Within s u → interval_leq (unary_span op k s) (unary_span op k u) ≡ true
span_monotone Neg k s u h w = let p = w.lower in let q = w.upper in let o = s.ordered in into_monotone k _ _ _ _ h (omega (arith, ints)) (omega (arith, ints)) (omega (arith, ints))
span_monotone Compl k s u h w = let p = w.lower in let q = w.upper in clamped_monotone k _ _ _ _ (omega (arith, ints)) (omega (arith, ints))

unary_monotone : (op : UnOp) (k : IntType) (x u : Interval) → is_size k.bytes ≡ true → interval_leq x u ≡ true → interval_leq (interval_unary op x k) (interval_unary op u k) ≡ true
unary_monotone op k Bottom u h p = refl
unary_monotone op k (Of s) Bottom h p = cc
unary_monotone op k (Of s) (Of u) h p = span_monotone op k s u h (within s u p)

convert_monotone : (k : IntType) (x u : Interval) → is_size k.bytes ≡ true → interval_leq x u ≡ true → interval_leq (interval_convert x k) (interval_convert u k) ≡ true
convert_monotone k Bottom u h p = refl
convert_monotone k (Of s) Bottom h p = cc
convert_monotone k (Of s) (Of u) h p = least_monotone _ _ _ _
    (λ z g. record { number = g.number; of = within_stands s u g.number (within s u p) g.of; gives = g.gives })
    (conversions_best k s h) (conversions_best k u h)

pub interval_monotone : MonotoneLaws interval_lattice interval_numbers
interval_monotone = record {
  arith_monotone = arith_monotone;
  unary_monotone = unary_monotone;
  convert_monotone = convert_monotone;
  compare_monotone = compare_monotone;
  refine_monotone = refine_monotone;
}

-- ---- numbers of the operands

pub spans_stand : (op : IntOp) (k : IntType) (s t : Span) (a b c : ℤ) → is_size k.bytes ≡ true → Stands (Of s) a → Stands (Of t) b → in_type k a ≡ true → binary_result op k a b ≡ Some c → Stands (arith_spans op k s t) c
spans_stand Add k s t a b c h p q i e = sums_stands k s t a b c h p q e
spans_stand Sub k s t a b c h p q i e = differences_stands k s t a b c h p q e
spans_stand Mul k s t a b c h p q i e = products_stands k s t a b c h p q e
spans_stand Div k s t a b c h p q i e = quotients_stands k s t a b c p q e
spans_stand Rem k s t a b c h p q i e = remainders_stands k s t a b c h p q i e
spans_stand And k s t a b c h p q i e = subst (Stands (arith_spans And k s t)) (some_same _ _ e) (conjunctions_stands k s t a b h p q)
spans_stand Or k s t a b c h p q i e = subst (Stands (arith_spans Or k s t)) (some_same _ _ e) (disjunctions_stands k s t a b h p q)
spans_stand Xor k s t a b c h p q i e = subst (Stands (arith_spans Xor k s t)) (some_same _ _ e) (exclusives_stands k s t a b h p q)
spans_stand Shl k s t a b c h p q i e = shifted_left_stands k s t a b c h p q i e
spans_stand Shr k s t a b c h p q i e = shifted_right_stands k s t a b c h p q i e

arith_stands : (op : IntOp) (k : IntType) (x y : Interval) (a b c : ℤ) → is_size k.bytes ≡ true → Stands x a → Stands y b → in_type k a ≡ true → binary_result op k a b ≡ Some c → Stands (interval_arith op x y k) c
arith_stands op k Bottom y a b c h p q i e = absurd p
arith_stands op k (Of s) Bottom a b c h p q i e = absurd q
arith_stands op k (Of s) (Of t) a b c h p q i e = spans_stand op k s t a b c h p q i e

pub mirrored_stands : (k : IntType) (s : Span) (a : ℤ) → Stands (Of s) a → in_type k a ≡ true → Stands (unary_span Compl k s) ((least_of k +ℤ greatest_of k) -ℤ a)
mirrored_stands k s a p i = let o = of_type k a i in clamped_stands k _ _ _ (omega (arith, ints)) (omega (arith, ints)) (in_type_between k _ (omega (arith, ints)) (omega (arith, ints)))

span_stands : (op : UnOp) (k : IntType) (s : Span) (a c : ℤ) → is_size k.bytes ≡ true → Stands (Of s) a → in_type k a ≡ true → unary_result op k a ≡ Some c → Stands (unary_span op k s) c
span_stands Neg k s a c h p i e = into_stands k _ _ (neg_ℤ a) c h (omega (arith, ints)) (omega (arith, ints)) e
span_stands Compl k s a c h p i e = subst (Stands (unary_span Compl k s)) (some_same _ _ e) (mirrored_stands k s a p i)

unary_stands : (op : UnOp) (k : IntType) (x : Interval) (a c : ℤ) → is_size k.bytes ≡ true → Stands x a → in_type k a ≡ true → unary_result op k a ≡ Some c → Stands (interval_unary op x k) c
unary_stands op k Bottom a c h p i e = absurd p
unary_stands op k (Of s) a c h p i e = span_stands op k s a c h p i e

convert_stands : (k : IntType) (x : Interval) (a : ℤ) → is_size k.bytes ≡ true → Stands x a → Stands (interval_convert x k) (wrap_into k a)
convert_stands k Bottom a h p = absurd p
convert_stands k (Of s) a h p = (conversions_best k s h).holds _ (record { number = a; of = p; gives = refl })

pub interval_sound : SoundLaws interval_lattice interval_numbers Stands
interval_sound = record {
  arith_stands = arith_stands;
  unary_stands = unary_stands;
  convert_stands = convert_stands;
  compare_holds = compare_holds;
  compare_fails = compare_fails;
  compare_never = compare_never;
  refine_stands = refine_stands;
}

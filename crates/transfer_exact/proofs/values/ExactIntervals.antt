-- Intervals of one number give exactly what the machine gives.
use Rattle.std.proofs.Common.{◌≡◌, Bool, true, false, not, ◌&&◌, Option, Some, None, arith, subst, sym, refl, ap, ap₂, ◌∙◌}
use Rattle.std.specs.Prelude.{ℤ, ◌≤ℤ◌, int_le, int_lt}
use Rattle.std.specs.Ordering.{int_eq}
use Rattle.std.proofs.lemmas.Int.{ints}
use Rattle.std.proofs.lemmas.Bool.{and_from, and_parts}
use Rattle.cc_base.specs.IntegerTypes.{is_size, in_type, wrap_into}
use Rattle.cc_base.specs.MachineArithmetic.{binary_result, unary_result, holds}
use Rattle.cc_base.specs.Truths.{tri_of}
use Rattle.cc_base.specs.declared.int_types.IntType.{IntType}
use Rattle.cc_base.specs.declared.integer_operators.IntOp.{IntOp}
use Rattle.cc_base.specs.declared.integer_operators.IntOp.TheVariants.{Add, Sub, Mul, Div, Rem, And, Or, Xor, Shl, Shr}
use Rattle.cc_base.specs.declared.integer_operators.UnOp.{UnOp}
use Rattle.cc_base.specs.declared.integer_operators.UnOp.TheVariants.{Neg, Compl}
use Rattle.cc_base.specs.declared.integer_operators.Rel.{Rel}
use Rattle.cc_base.specs.declared.integer_operators.Rel.TheVariants.{Lt, Le, Gt, Ge, Eq, Ne}
use Rattle.interval_domain.specs.declared.intervals.intervals.Interval.{Interval}
use Rattle.interval_domain.specs.declared.intervals.intervals.Interval.TheVariants.{Bottom, Of}
use Rattle.interval_domain.specs.Intervals.Spans.{same_spans, interval_bounds, Stands}
use Rattle.interval_domain.specs.Intervals.IntervalOrder.{interval_leq}
use Rattle.interval_domain.specs.Intervals.IntervalNumbers.{interval_numbers}
use Rattle.interval_domain.specs.Intervals.Arithmetic.{interval_arith, interval_unary, interval_convert, arith_spans, unary_span}
use Rattle.interval_domain.specs.Intervals.Relations.{interval_compare, interval_refine}
use Rattle.interval_domain.specs.Intervals.Best.{IsLeastWith, GivesOfTwo, GivesOf, negations_best, conversions_best}
use Rattle.interval_domain.specs.Intervals.BestRelations.{IsRelated, refined_best}
use Rattle.domain_theorems.specs.Intervals.BestResults.{are_operands}
use Rattle.domain_theorems.proofs.intervals.BestResults.{complements_best}
use Rattle.domain_theorems.proofs.intervals.BestSingles.{singles_best}
use Rattle.domain_theorems.proofs.intervals.Single.{only, only_single, has_only, at_lo}
use Rattle.transfer_exact.specs.Values.SingleNumbers.{IsOne, IsNone}
use Rattle.transfer_exact.specs.Values.ExactNumbers.{FitsRight, truth_of, IsResult, ExactLaws}

-- ---- intervals of one number

abbrev lower_of : Option (ℤ × ℤ) → ℤ → ℤ
lower_of None d = d
lower_of (Some p) d = p.0

abbrev upper_of : Option (ℤ × ℤ) → ℤ → ℤ
upper_of None d = d
upper_of (Some p) d = p.1

only_of : (x : Interval) (a : ℤ) → interval_bounds x ≡ Some (a, a) → x ≡ Of (only a)
only_of Bottom a e = cc
only_of (Of s) a e = ap Of (same_spans s (only a) (ap (λ r. lower_of r a) e) (ap (λ r. upper_of r a) e))

module _ (P : ℤ → Type 0) where
  one_below : (x : Interval) (z : ℤ) → Stands x z → interval_leq x (Of (only z)) ≡ true → interval_bounds x ≡ Some (z, z)
  one_below Bottom z h k = absurd h
  one_below (Of s) z h k =
      let p = and_parts (int_le z s.lo) (int_le s.hi z) k in
      let l = h.0 in
      let u = h.1 in
      let m = from_le z s.lo p.0 in
      let w = from_le s.hi z p.1 in
      let a : s.lo ≡ z = omega (arith, ints) in
      let b : s.hi ≡ z = omega (arith, ints) in
      ap₂ (λ c d. Some (c, d)) a b
    where
      from_le : (a b : ℤ) → int_le a b ≡ true → a ≤ℤ b
      from_le a b h = grind (arith, ints)

  least_one : (x : Interval) (z : ℤ) → IsLeastWith P x → P z → ((w : ℤ) → P w → w ≡ z) → interval_bounds x ≡ Some (z, z)
  least_one x z h p f = one_below x z (h.holds z p) (h.least (Of (only z)) (λ w q. let e = f w q in subst (λ v. Stands (Of (only z)) v) (sym e) (at_lo (only z))))

  none_below : (x : Interval) → interval_leq x Bottom ≡ true → interval_bounds x ≡ None
  none_below Bottom k = refl
  none_below (Of s) k = cc

  least_none : (x : Interval) → IsLeastWith P x → ((w : ℤ) → P w → ⊥) → interval_bounds x ≡ None
  least_none x h f = none_below x (h.least Bottom f)

same_some : (a b : ℤ) → Some a ≡ Some b → a ≡ b
same_some a b e = cc

-- ---- operators on two numbers

operands : (op : IntOp) (k : IntType) (a b : ℤ) → in_type k a ≡ true → FitsRight op k b → are_operands op k (only a) (only b) ≡ true
operands Add k a b i j = and_from _ _ i j
operands Sub k a b i j = and_from _ _ i j
operands Mul k a b i j = and_from _ _ i j
operands Div k a b i j = and_from _ _ i j
operands Rem k a b i j = and_from _ _ i j
operands And k a b i j = and_from _ _ i j
operands Or k a b i j = and_from _ _ i j
operands Xor k a b i j = and_from _ _ i j
operands Shl k a b i j = i
operands Shr k a b i j = i

module _ (op : IntOp) (k : IntType) (a b : ℤ) (size : is_size k.bytes ≡ true) (i : in_type k a ≡ true) (j : FitsRight op k b) where
  abbrev Gives : ℤ → Type 0
  Gives z = GivesOfTwo (binary_result op k) (only a) (only b) z

  best : IsLeastWith Gives (arith_spans op k (only a) (only b))
  best = singles_best op k (only a) (only b) size (and_from _ _ (only_single a) (only_single b)) (operands op k a b i j)

  gives : (z : ℤ) → Gives z → binary_result op k a b ≡ Some z
  gives z g = sym (ap₂ (binary_result op k) (has_only a g.left g.of_left) (has_only b g.right g.of_right)) ∙ g.gives

  arith_by : (r : Option ℤ) → binary_result op k a b ≡ r → IsResult interval_numbers (arith_spans op k (only a) (only b)) r
  arith_by None e = least_none Gives _ best (λ z g. let h = sym e ∙ gives z g in cc)
  arith_by (Some c) e = least_one Gives _ c best (record { left = a; right = b; of_left = at_lo (only a); of_right = at_lo (only b); gives = e }) (λ z g. same_some z c (sym (gives z g) ∙ e))

exact_arith : (op : IntOp) (k : IntType) (x y : Interval) (a b : ℤ) → is_size k.bytes ≡ true → IsOne interval_numbers x a → IsOne interval_numbers y b → in_type k a ≡ true → FitsRight op k b → IsResult interval_numbers (interval_arith op x y k) (binary_result op k a b)
exact_arith op k x y a b size f g i j =
    subst (λ z. IsResult interval_numbers (interval_arith op z y k) (binary_result op k a b)) (sym (only_of x a f))
    (subst (λ z. IsResult interval_numbers (interval_arith op (Of (only a)) z k) (binary_result op k a b)) (sym (only_of y b g)) (arith_by op k a b size i j (binary_result op k a b) refl))

-- ---- operators on one number

module _ (op : UnOp) (k : IntType) (a : ℤ) (size : is_size k.bytes ≡ true) (i : in_type k a ≡ true) where
  abbrev GivesOne : ℤ → Type 0
  GivesOne z = GivesOf (unary_result op k) (only a) z

  best_one : (op : UnOp) → IsLeastWith (GivesOf (unary_result op k) (only a)) (unary_span op k (only a))
  best_one Neg = negations_best k (only a) size
  best_one Compl = complements_best k (only a) i

  gives_one : (z : ℤ) → GivesOne z → unary_result op k a ≡ Some z
  gives_one z g = sym (ap (unary_result op k) (has_only a g.number g.of)) ∙ g.gives

  unary_by : (r : Option ℤ) → unary_result op k a ≡ r → IsResult interval_numbers (unary_span op k (only a)) r
  unary_by None e = least_none GivesOne _ (best_one op) (λ z g. let h = sym e ∙ gives_one z g in cc)
  unary_by (Some c) e = least_one GivesOne _ c (best_one op) (record { number = a; of = at_lo (only a); gives = e }) (λ z g. same_some z c (sym (gives_one z g) ∙ e))

exact_unary : (op : UnOp) (k : IntType) (x : Interval) (a : ℤ) → is_size k.bytes ≡ true → IsOne interval_numbers x a → in_type k a ≡ true → IsResult interval_numbers (interval_unary op x k) (unary_result op k a)
exact_unary op k x a size f i = subst (λ z. IsResult interval_numbers (interval_unary op z k) (unary_result op k a)) (sym (only_of x a f)) (unary_by op k a size i (unary_result op k a) refl)

exact_convert : (k : IntType) (x : Interval) (a : ℤ) → is_size k.bytes ≡ true → IsOne interval_numbers x a → IsOne interval_numbers (interval_convert x k) (wrap_into k a)
exact_convert k x a size f =
    subst (λ z. IsOne interval_numbers (interval_convert z k) (wrap_into k a)) (sym (only_of x a f))
    (least_one (GivesOf (λ z. Some (wrap_into k z)) (only a)) _ (wrap_into k a) (conversions_best k (only a) size)
    (record { number = a; of = at_lo (only a); gives = refl })
    (λ z g. sym (same_some _ _ g.gives) ∙ ap (wrap_into k) (has_only a g.number g.of)))

no_convert : (k : IntType) (x : Interval) → IsNone interval_numbers x → IsNone interval_numbers (interval_convert x k)
no_convert k Bottom e = refl
no_convert k (Of s) e = cc

-- ---- relations

tri_truth : (h f g : Bool) → h ≡ g → f ≡ not g → tri_of h f ≡ truth_of g
tri_truth true true true d e = cc
tri_truth true false true d e = refl
tri_truth false true true d e = cc
tri_truth false false true d e = cc
tri_truth true true false d e = cc
tri_truth true false false d e = cc
tri_truth false true false d e = refl
tri_truth false false false d e = cc

below_or : (a b : ℤ) → int_le b a ≡ not (int_lt a b)
below_or a b = grind (arith, ints)

at_most_or : (a b : ℤ) → int_lt b a ≡ not (int_le a b)
at_most_or a b = grind (arith, ints)

both_ways : (a b : ℤ) → (int_le a b && int_le b a) ≡ int_eq a b
both_ways a b = grind (arith, ints)

not_apart : (a b : ℤ) → (int_eq a b && int_eq b a) ≡ int_eq a b
not_apart a b = grind (arith, ints)

twice : (b : Bool) → b ≡ not (not b)
twice true = refl
twice false = refl

compared : (rel : Rel) (a b : ℤ) → interval_compare rel (Of (only a)) (Of (only b)) ≡ truth_of (holds rel a b)
compared Lt a b = tri_truth _ _ _ refl (below_or a b)
compared Le a b = tri_truth _ _ _ refl (at_most_or a b)
compared Gt a b = tri_truth _ _ _ refl (below_or b a)
compared Ge a b = tri_truth _ _ _ refl (at_most_or b a)
compared Eq a b = tri_truth _ _ _ (both_ways a b) (ap not (not_apart a b))
compared Ne a b = tri_truth _ _ _ (ap not (not_apart a b)) (both_ways a b ∙ twice (int_eq a b))

exact_compare : (rel : Rel) (x y : Interval) (a b : ℤ) → IsOne interval_numbers x a → IsOne interval_numbers y b → interval_compare rel x y ≡ truth_of (holds rel a b)
exact_compare rel x y a b f g = ap₂ (interval_compare rel) (only_of x a f) (only_of y b g) ∙ compared rel a b

exact_refine : (rel : Rel) (x y : Interval) (a b : ℤ) → IsOne interval_numbers x a → IsOne interval_numbers y b → holds rel a b ≡ true → IsOne interval_numbers (interval_refine rel x y) a
exact_refine rel x y a b f g h =
    subst (λ z. IsOne interval_numbers (interval_refine rel z y) a) (sym (only_of x a f))
    (subst (λ z. IsOne interval_numbers (interval_refine rel (Of (only a)) z) a) (sym (only_of y b g))
    (least_one (IsRelated rel (only a) (only b)) _ a (refined_best rel (only a) (only b))
    (record { of = at_lo (only a); other = b; of_other = at_lo (only b); related = h })
    (λ z r. has_only a z r.of)))

pub intervals_exact : ExactLaws interval_numbers
intervals_exact = record {
  arith = exact_arith;
  unary = exact_unary;
  convert = exact_convert;
  compare = exact_compare;
  refine = exact_refine;
  no_convert = no_convert;
}

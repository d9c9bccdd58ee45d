-- Which results are the best ones, as one fact for each call.
use Rattle.std.specs.Prelude.{◌≡◌, ℤ, Bool, true, false, Some, refl, ◌↔◌}
use Rattle.std.proofs.Common.{subst, sym, ap, ◌∙◌}
use Rattle.cc_base.specs.IntegerTypes.{is_size, wrap_into}
use Rattle.cc_base.specs.Truths.{tri_of, can_hold, can_fail}
use Rattle.cc_base.specs.MachineArithmetic.{binary_result, unary_result}
use Rattle.cc_base.specs.declared.int_types.IntType.{IntType}
use Rattle.cc_base.specs.declared.integer_operators.IntOp.{IntOp}
use Rattle.cc_base.specs.declared.integer_operators.IntOp.TheVariants.{Add, Sub, Mul, Div, Rem, And, Or, Xor, Shl, Shr}
use Rattle.cc_base.specs.declared.integer_operators.UnOp.{UnOp}
use Rattle.cc_base.specs.declared.integer_operators.UnOp.TheVariants.{Neg, Compl}
use Rattle.cc_base.specs.declared.integer_operators.Rel.{Rel}
use Rattle.cc_base.specs.declared.integer_operators.Tri.{Tri}
use Rattle.interval_domain.specs.declared.intervals.spans.Span.{Span}
use Rattle.interval_domain.specs.declared.intervals.intervals.Interval.{Interval}
use Rattle.interval_domain.specs.declared.intervals.intervals.Interval.TheVariants.{Bottom, Of}
use Rattle.interval_domain.specs.Intervals.Arithmetic.{interval_arith, interval_unary, interval_convert}
use Rattle.interval_domain.specs.Intervals.Relations as relation
use Rattle.interval_domain.specs.Intervals.Best.{IsLeastWith, GivesOfTwo, GivesOf, sums_best, differences_best, negations_best, conversions_best}
use Rattle.interval_domain.specs.Intervals.BestRelations.{SomePair, IsRelated, pair_from, pair_to, refined_best}

-- `+` and `-` give the least interval that has each number that the machine gives
abbrev pub IsBestSpans : IntOp → IntType → Span → Span → Interval → Type 0
IsBestSpans Add k s t r = IsLeastWith (GivesOfTwo (binary_result Add k) s t) r
IsBestSpans Sub k s t r = IsLeastWith (GivesOfTwo (binary_result Sub k) s t) r
IsBestSpans Mul k s t r = Unit {0}
IsBestSpans Div k s t r = Unit {0}
IsBestSpans Rem k s t r = Unit {0}
IsBestSpans And k s t r = Unit {0}
IsBestSpans Or k s t r = Unit {0}
IsBestSpans Xor k s t r = Unit {0}
IsBestSpans Shl k s t r = Unit {0}
IsBestSpans Shr k s t r = Unit {0}

abbrev pub IsBestArith : IntOp → Interval → Interval → IntType → Interval → Type 0
IsBestArith op Bottom y k r = r ≡ Bottom
IsBestArith op (Of s) Bottom k r = r ≡ Bottom
IsBestArith op (Of s) (Of t) k r = IsBestSpans op k s t r

-- negation gives the least interval that has each number that the machine gives
abbrev pub IsBestUnary : UnOp → Interval → IntType → Interval → Type 0
IsBestUnary op Bottom k r = r ≡ Bottom
IsBestUnary Neg (Of s) k r = IsLeastWith (GivesOf (unary_result Neg k) s) r
IsBestUnary Compl (Of s) k r = Unit {0}

-- conversion gives the least interval that has each converted number
abbrev pub IsBestConversion : Interval → IntType → Interval → Type 0
IsBestConversion Bottom k r = r ≡ Bottom
IsBestConversion (Of s) k r = IsLeastWith (GivesOf (λ z. Some (wrap_into k z)) s) r

-- true can be exactly where some pair of numbers has the relation, false exactly where some pair has the opposite one
pub record IsExactTruth (rel : Rel) (s t : Span) (r : Tri) : Type 0 where
  pub holds_from : can_hold r ≡ true → SomePair rel s t
  pub holds_to : SomePair rel s t → can_hold r ≡ true
  pub fails_from : can_fail r ≡ true → SomePair (relation.opposite rel) s t
  pub fails_to : SomePair (relation.opposite rel) s t → can_fail r ≡ true

abbrev pub IsExactCompare : Rel → Interval → Interval → Tri → Type 0
IsExactCompare rel Bottom y r = (can_hold r ≡ false) × (can_fail r ≡ false)
IsExactCompare rel (Of s) Bottom r = (can_hold r ≡ false) × (can_fail r ≡ false)
IsExactCompare rel (Of s) (Of t) r = IsExactTruth rel s t r

-- refining gives the least interval of the numbers that have the relation to some number of the other
abbrev pub IsBestRefinement : Rel → Interval → Interval → Interval → Type 0
IsBestRefinement rel Bottom y r = r ≡ Bottom
IsBestRefinement rel (Of s) Bottom r = r ≡ Bottom
IsBestRefinement rel (Of s) (Of t) r = IsLeastWith (IsRelated rel s t) r

best_spans : (op : IntOp) (k : IntType) (s t : Span) → is_size k.bytes ≡ true → IsBestSpans op k s t (interval_arith op (Of s) (Of t) k)
best_spans Add k s t h = sums_best k s t h
best_spans Sub k s t h = differences_best k s t h
best_spans Mul k s t h = tt
best_spans Div k s t h = tt
best_spans Rem k s t h = tt
best_spans And k s t h = tt
best_spans Or k s t h = tt
best_spans Xor k s t h = tt
best_spans Shl k s t h = tt
best_spans Shr k s t h = tt

pub best_arith : (op : IntOp) (x y : Interval) (k : IntType) → is_size k.bytes ≡ true → IsBestArith op x y k (interval_arith op x y k)
best_arith op Bottom y k h = refl
best_arith op (Of s) Bottom k h = refl
best_arith op (Of s) (Of t) k h = best_spans op k s t h

pub best_unary : (op : UnOp) (x : Interval) (k : IntType) → is_size k.bytes ≡ true → IsBestUnary op x k (interval_unary op x k)
best_unary op Bottom k h = refl
best_unary Neg (Of s) k h = negations_best k s h
best_unary Compl (Of s) k h = tt

pub best_conversion : (x : Interval) (k : IntType) → is_size k.bytes ≡ true → IsBestConversion x k (interval_convert x k)
best_conversion Bottom k h = refl
best_conversion (Of s) k h = conversions_best k s h

can_hold_of : (a b : Bool) → can_hold (tri_of a b) ≡ a
can_hold_of true true = refl
can_hold_of true false = refl
can_hold_of false true = refl
can_hold_of false false = refl

can_fail_of : (a b : Bool) → can_fail (tri_of a b) ≡ b
can_fail_of true true = refl
can_fail_of true false = refl
can_fail_of false true = refl
can_fail_of false false = refl

pub exact_compare : (rel : Rel) (x y : Interval) → IsExactCompare rel x y (relation.interval_compare rel x y)
exact_compare rel Bottom y = (refl, refl)
exact_compare rel (Of s) Bottom = (refl, refl)
exact_compare rel (Of s) (Of t) =
    let a = relation.can_hold rel s t in
    let b = relation.can_hold (relation.opposite rel) s t in
    record {
      holds_from = λ h. pair_from rel s t (sym (can_hold_of a b) ∙ h);
      holds_to = λ p. can_hold_of a b ∙ pair_to rel s t p;
      fails_from = λ h. pair_from (relation.opposite rel) s t (sym (can_fail_of a b) ∙ h);
      fails_to = λ p. can_fail_of a b ∙ pair_to (relation.opposite rel) s t p;
    }

pub best_refinement : (rel : Rel) (x y : Interval) → IsBestRefinement rel x y (relation.interval_refine rel x y)
best_refinement rel Bottom y = refl
best_refinement rel (Of s) Bottom = refl
best_refinement rel (Of s) (Of t) = refined_best rel s t

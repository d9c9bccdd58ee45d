-- Tables that give the whole type: the law of the least interval refuses each, by single numbers of one signed byte.
use Rattle.std.specs.Prelude.{◌≡◌, ℤ, pos, true, Some, refl}
use Rattle.std.proofs.Common.{arith, subst}
use Rattle.std.proofs.lemmas.Int.{ints}
use lib.Signed.{le_z_yes}
use Rattle.cc_base.specs.IntegerTypes.{is_size, wrap_into}
use Rattle.cc_base.specs.MachineArithmetic.{binary_result}
use Rattle.cc_base.specs.declared.int_types.IntType.{IntType}
use Rattle.cc_base.specs.declared.integer_operators.IntOp.TheVariants.{Add}
use Rattle.cc_base.specs.declared.integer_operators.Rel.{Rel}
use Rattle.cc_base.specs.declared.integer_operators.Rel.TheVariants.{Lt}
use Rattle.interval_domain.specs.declared.intervals.spans.Span.{Span}
use Rattle.interval_domain.specs.declared.intervals.intervals.Interval.TheVariants.{Of}
use Rattle.interval_domain.specs.Intervals.Spans.{between_or_empty, Stands}
use Rattle.interval_domain.specs.Intervals.IntervalOrder.{interval_leq}
use Rattle.interval_domain.specs.Intervals.Arithmetic.{whole}
use Rattle.interval_domain.specs.Intervals.Best.{IsLeastWith, GivesOfTwo, GivesOf}
use Rattle.interval_domain.specs.Intervals.BestRelations.{IsRelated}

abbrev char : IntType
char = record { bytes = 1; signed = true; rank = 1 }

abbrev one : Span
one = record { lo = pos 1; hi = pos 1; ordered = le_z_yes tt }

abbrev two : Span
two = record { lo = pos 2; hi = pos 2; ordered = le_z_yes tt }

only_one : (a : ℤ) → Stands (Of one) a → a ≡ pos 1
only_one a p = let l = p.0 in let h = p.1 in omega (arith, ints)

same : (a b : ℤ) → Some a ≡ Some b → a ≡ b
same a b e = cc

-- 1 + 1 is 2
whole_for_sum : ((k : IntType) (s t : Span) → is_size k.bytes ≡ true → IsLeastWith (GivesOfTwo (binary_result Add k) s t) (whole k)) → ⊥
unfolding between_or_empty
whole_for_sum h = let e : interval_leq (whole char) (Of two) ≡ true = (h char one one refl).least (Of two) is_two in cc
  where
    is_two : (z : ℤ) → GivesOfTwo (binary_result Add char) one one z → Stands (Of two) z
    is_two z g =
        let l : g.left ≡ pos 1 = only_one g.left g.of_left in
        let r : g.right ≡ pos 1 = only_one g.right g.of_right in
        let a : binary_result Add char (pos 1) g.right ≡ Some z = subst (λ x. binary_result Add char x g.right ≡ Some z) l g.gives in
        let b : binary_result Add char (pos 1) (pos 1) ≡ Some z = subst (λ x. binary_result Add char (pos 1) x ≡ Some z) r a in
        subst (Stands (Of two)) (same (pos 2) z b) (le_z_yes tt, le_z_yes tt)

-- 1, converted, is 1
whole_for_conversion : ((k : IntType) (s : Span) → is_size k.bytes ≡ true → IsLeastWith (GivesOf (λ z. Some (wrap_into k z)) s) (whole k)) → ⊥
unfolding between_or_empty
whole_for_conversion h = let e : interval_leq (whole char) (Of one) ≡ true = (h char one refl).least (Of one) is_one in cc
  where
    is_one : (z : ℤ) → GivesOf (λ x. Some (wrap_into char x)) one z → Stands (Of one) z
    is_one z g =
        let n : g.number ≡ pos 1 = only_one g.number g.of in
        let a : Some (wrap_into char (pos 1)) ≡ Some z = subst (λ x. Some (wrap_into char x) ≡ Some z) n g.gives in
        subst (Stands (Of one)) (same (pos 1) z a) (le_z_yes tt, le_z_yes tt)

-- what of 1 is below 2 is 1
whole_for_refinement : ((rel : Rel) (k : IntType) (s t : Span) → IsLeastWith (IsRelated rel s t) (whole k)) → ⊥
unfolding between_or_empty
whole_for_refinement h = let e : interval_leq (whole char) (Of one) ≡ true = (h Lt char one two).least (Of one) (λ z r. r.of) in cc

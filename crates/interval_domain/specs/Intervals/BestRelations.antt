-- Comparing and refining are exact: each truth value comes from some pair of numbers, and refining leaves the least interval.
use Rattle.std.specs.Prelude.{◌≡◌, ℤ, pos, ◌+ℤ◌, ◌-ℤ◌, ◌≤ℤ◌, ◌<ℤ◌, Bool, true, false, not, cond, ◌&&◌, int_le, int_lt, refl, ◌⊎◌, ◌↔◌}
use Rattle.std.specs.Int.{int_min, int_max}
use Rattle.std.specs.Ordering.{int_eq}
use Rattle.std.proofs.Common.{arith, ap, ◌∙◌, sym, subst, inl, inr}
use Rattle.std.proofs.lemmas.Int.{ints, clamps, by_lt_z}
use Rattle.std.proofs.lemmas.Bool.{cond_both, cases_Bool, and_from, and_parts, true_from_ne_false, false_from_ne_true, not-true, not_from_false, and_cases}
use Rattle.std.proofs.lemmas.Bool.Decides.{Decides-int_eq}
use lib.Signed.{≤ℤ_refl}
use Rattle.cc_base.specs.MachineArithmetic.{holds}
use Rattle.cc_base.specs.declared.integer_operators.Rel.{Rel}
use Rattle.cc_base.specs.declared.integer_operators.Rel.TheVariants.{Lt, Le, Gt, Ge, Eq, Ne}
use Rattle.interval_domain.specs.declared.intervals.spans.Span.{Span}
use Rattle.interval_domain.specs.declared.intervals.intervals.Interval.{Interval}
use Rattle.interval_domain.specs.declared.intervals.intervals.Interval.TheVariants.{Bottom, Of}
use Rattle.interval_domain.specs.Intervals.Spans.{between_or_empty, between_own, by_between, Stands}
use Rattle.interval_domain.specs.Intervals.IntervalOrder.{interval_leq}
use Rattle.interval_domain.specs.Intervals.Relations.{can_hold, opposite, refined, without_end}
use Rattle.interval_domain.specs.Intervals.Best.{IsLeastWith, below_if, stands_between, le_true, true_le}

-- some numbers of the two have the relation
pub record SomePair (rel : Rel) (s t : Span) : Type 0 where
  pub left : ℤ
  pub right : ℤ
  pub of_left : Stands (Of s) left
  pub of_right : Stands (Of t) right
  pub related : holds rel left right ≡ true

lt_true : (a b : ℤ) → int_lt a b ≡ true → a <ℤ b
lt_true a b h = grind (arith, ints)

true_lt : (a b : ℤ) → a <ℤ b → int_lt a b ≡ true
true_lt a b h = grind (arith, ints)

eq_true : (a b : ℤ) → int_eq a b ≡ true → a ≡ b
eq_true a b h = (Decides-int_eq a b).0 h

true_eq : (a b : ℤ) → a ≡ b → int_eq a b ≡ true
true_eq a b h = (Decides-int_eq a b).1 h

at_lo : (s : Span) → Stands (Of s) s.lo
at_lo s = (≤ℤ_refl s.lo, s.ordered)

at_hi : (s : Span) → Stands (Of s) s.hi
at_hi s = (s.ordered, ≤ℤ_refl s.hi)

lower_of_two : (a b c d : ℤ) → a ≤ℤ d → c ≤ℤ b → a ≤ℤ b → c ≤ℤ d → (a ≤ℤ int_max a c) × (int_max a c ≤ℤ b) × (c ≤ℤ int_max a c) × (int_max a c ≤ℤ d)
lower_of_two a b c d p q r s = (omega (arith, ints, clamps), omega (arith, ints, clamps), omega (arith, ints, clamps), omega (arith, ints, clamps))

unequal : (a b : ℤ) → (a ≡ b → ⊥) → not (int_eq a b) ≡ true
unequal a b n = elim (cases_Bool (int_eq a b)) [ inl e ↦ absurd (n (eq_true a b e)) | inr f ↦ (grind arith) ]

-- two spans of which not both ends are the other's have two different numbers
differ : (s t : Span) → not (int_eq s.lo t.hi && int_eq t.lo s.hi) ≡ true → SomePair Ne s t
differ s t h = elim (cases_Bool (int_eq s.lo t.hi)) [
  | inr f ↦ record { left = s.lo; right = t.hi; of_left = at_lo s; of_right = at_hi t; related = (grind arith) }
  | inl e ↦ elim (cases_Bool (int_eq t.lo s.hi)) [
    | inr g ↦ record { left = s.hi; right = t.lo; of_left = at_hi s; of_right = at_lo t; related = unequal s.hi t.lo (λ (q : s.hi ≡ t.lo). let k : int_eq t.lo s.hi ≡ true = true_eq _ _ (sym q) in let l : true ≡ false = sym k ∙ g in cc) }
    | inl d ↦ (let x : (int_eq s.lo t.hi && int_eq t.lo s.hi) ≡ true = and_from _ _ e d in absurd (grind arith))
  ]
]

pub pair_from : (rel : Rel) (s t : Span) → can_hold rel s t ≡ true → SomePair rel s t
pair_from Lt s t h = record { left = s.lo; right = t.hi; of_left = at_lo s; of_right = at_hi t; related = h }
pair_from Le s t h = record { left = s.lo; right = t.hi; of_left = at_lo s; of_right = at_hi t; related = h }
pair_from Gt s t h = record { left = s.hi; right = t.lo; of_left = at_hi s; of_right = at_lo t; related = h }
pair_from Ge s t h = record { left = s.hi; right = t.lo; of_left = at_hi s; of_right = at_lo t; related = h }
pair_from Eq s t h =
    let p = and_parts (int_le s.lo t.hi) (int_le t.lo s.hi) h in
    let q = lower_of_two s.lo s.hi t.lo t.hi (le_true _ _ p.0) (le_true _ _ p.1) s.ordered t.ordered in
    record { left = int_max s.lo t.lo; right = int_max s.lo t.lo; of_left = (q.0, q.1); of_right = (q.2, q.3); related = true_eq (int_max s.lo t.lo) (int_max s.lo t.lo) refl }
pair_from Ne s t h = differ s t h

pub pair_to : (rel : Rel) (s t : Span) → SomePair rel s t → can_hold rel s t ≡ true
pair_to Lt s t p = let l = p.of_left in let r = p.of_right in let h = lt_true p.left p.right p.related in true_lt s.lo t.hi (omega (arith, ints))
pair_to Le s t p = let l = p.of_left in let r = p.of_right in let h = le_true p.left p.right p.related in true_le s.lo t.hi (omega (arith, ints))
pair_to Gt s t p = let l = p.of_left in let r = p.of_right in let h = lt_true p.right p.left p.related in true_lt t.lo s.hi (omega (arith, ints))
pair_to Ge s t p = let l = p.of_left in let r = p.of_right in let h = le_true p.right p.left p.related in true_le t.lo s.hi (omega (arith, ints))
pair_to Eq s t p = let l = p.of_left in let r = p.of_right in let h = eq_true p.left p.right p.related in and_from (int_le s.lo t.hi) (int_le t.lo s.hi) (true_le s.lo t.hi (omega (arith, ints))) (true_le t.lo s.hi (omega (arith, ints)))
pair_to Ne s t p = elim (cases_Bool (int_eq s.lo t.hi && int_eq t.lo s.hi)) [
  | inr f ↦ not_from_false _ f
  | inl e ↦ (let d = and_parts (int_eq s.lo t.hi) (int_eq t.lo s.hi) e in
      let a = eq_true s.lo t.hi d.0 in
      let b = eq_true t.lo s.hi d.1 in
      let l = p.of_left in
      let r = p.of_right in
      let o = s.ordered in
      let o' = t.ordered in
      let c : p.left ≡ p.right = omega (arith, ints) in
      let k : int_eq p.left p.right ≡ true = true_eq p.left p.right c in
      let m : not (int_eq p.left p.right) ≡ true = p.related in
      absurd (grind arith))
]

-- ---- refining

-- z is of s, and has the relation to some number of t
pub record IsRelated (rel : Rel) (s t : Span) (z : ℤ) : Type 0 where
  pub of : Stands (Of s) z
  pub other : ℤ
  pub of_other : Stands (Of t) other
  pub related : holds rel z other ≡ true

-- the numbers of s from a to b, where each of them and no other is related
from_to : (rel : Rel) (s t : Span) (a b : ℤ) → ((z : ℤ) → IsRelated rel s t z → (a ≤ℤ z) × (z ≤ℤ b)) → (a ≤ℤ b → IsRelated rel s t a × IsRelated rel s t b) → IsLeastWith (IsRelated rel s t) (between_or_empty a b)
from_to rel s t a b f g = record {
  holds = λ z r. let p = f z r in stands_between a b z p.0 p.1;
  least = λ y h. below_if a b y (λ o. let p = g o in (h a p.0, h b p.1));
}

refined_lt : (s t : Span) → IsLeastWith (IsRelated Lt s t) (refined Lt s t)
refined_lt s t = from_to Lt s t _ _
    (λ z r. let l = r.of in let m = r.of_other in let h = lt_true z r.other r.related in (l.0, omega (arith, ints, clamps)))
    (λ o. let n = s.ordered in (
      record { of = (≤ℤ_refl s.lo, s.ordered); other = t.hi; of_other = at_hi t; related = true_lt s.lo t.hi (omega (arith, ints, clamps)) },
      record { of = (o, omega (arith, ints, clamps)); other = t.hi; of_other = at_hi t; related = true_lt (int_min s.hi (t.hi -ℤ pos 1)) t.hi (omega (arith, ints, clamps)) },
    ))

refined_le : (s t : Span) → IsLeastWith (IsRelated Le s t) (refined Le s t)
refined_le s t = from_to Le s t _ _
    (λ z r. let l = r.of in let m = r.of_other in let h = le_true z r.other r.related in (l.0, omega (arith, ints, clamps)))
    (λ o. let n = s.ordered in (
      record { of = (≤ℤ_refl s.lo, s.ordered); other = t.hi; of_other = at_hi t; related = true_le s.lo t.hi (omega (arith, ints, clamps)) },
      record { of = (o, omega (arith, ints, clamps)); other = t.hi; of_other = at_hi t; related = true_le (int_min s.hi t.hi) t.hi (omega (arith, ints, clamps)) },
    ))

refined_gt : (s t : Span) → IsLeastWith (IsRelated Gt s t) (refined Gt s t)
refined_gt s t = from_to Gt s t _ _
    (λ z r. let l = r.of in let m = r.of_other in let h = lt_true r.other z r.related in (omega (arith, ints, clamps), l.1))
    (λ o. let n = s.ordered in (
      record { of = (omega (arith, ints, clamps), o); other = t.lo; of_other = at_lo t; related = true_lt t.lo (int_max s.lo (t.lo +ℤ pos 1)) (omega (arith, ints, clamps)) },
      record { of = (s.ordered, ≤ℤ_refl s.hi); other = t.lo; of_other = at_lo t; related = true_lt t.lo s.hi (omega (arith, ints, clamps)) },
    ))

refined_ge : (s t : Span) → IsLeastWith (IsRelated Ge s t) (refined Ge s t)
refined_ge s t = from_to Ge s t _ _
    (λ z r. let l = r.of in let m = r.of_other in let h = le_true r.other z r.related in (omega (arith, ints, clamps), l.1))
    (λ o. let n = s.ordered in (
      record { of = (omega (arith, ints, clamps), o); other = t.lo; of_other = at_lo t; related = true_le t.lo (int_max s.lo t.lo) (omega (arith, ints, clamps)) },
      record { of = (s.ordered, ≤ℤ_refl s.hi); other = t.lo; of_other = at_lo t; related = true_le t.lo s.hi (omega (arith, ints, clamps)) },
    ))

refined_eq : (s t : Span) → IsLeastWith (IsRelated Eq s t) (refined Eq s t)
refined_eq s t = from_to Eq s t _ _
    (λ z r. let l = r.of in let m = r.of_other in let h = eq_true z r.other r.related in (omega (arith, ints, clamps), omega (arith, ints, clamps)))
    (λ o. (
      record { of = (omega (arith, ints, clamps), omega (arith, ints, clamps)); other = int_max s.lo t.lo; of_other = (omega (arith, ints, clamps), omega (arith, ints, clamps)); related = true_eq (int_max s.lo t.lo) (int_max s.lo t.lo) refl },
      record { of = (omega (arith, ints, clamps), omega (arith, ints, clamps)); other = int_min s.hi t.hi; of_other = (omega (arith, ints, clamps), omega (arith, ints, clamps)); related = true_eq (int_min s.hi t.hi) (int_min s.hi t.hi) refl },
    ))

differs : (a b : ℤ) → holds Ne a b ≡ true → a ≡ b → ⊥
differs a b h e = let k : int_eq a b ≡ true = true_eq a b e in absurd (grind arith)

-- a number other than n is not below the lower end without n, nor above the upper one
lower_without : (a n z : ℤ) → a ≤ℤ z → (z ≡ n → ⊥) → cond (int_eq a n) (a +ℤ pos 1) a ≤ℤ z
lower_without a n z h f = cond_both (int_eq a n) (a +ℤ pos 1) a (λ m. m ≤ℤ z)
    (λ e. let q = eq_true a n e in by_lt_z a z (λ (l : a <ℤ z). omega (arith, ints)) (λ (g : z ≤ℤ a). absurd (f (omega (arith, ints)))))
    (λ _. h)

upper_without : (b n z : ℤ) → z ≤ℤ b → (z ≡ n → ⊥) → z ≤ℤ cond (int_eq b n) (b -ℤ pos 1) b
upper_without b n z h f = cond_both (int_eq b n) (b -ℤ pos 1) b (λ m. z ≤ℤ m)
    (λ e. let q = eq_true b n e in by_lt_z z b (λ (l : z <ℤ b). omega (arith, ints)) (λ (g : b ≤ℤ z). absurd (f (omega (arith, ints)))))
    (λ _. h)

raised_at : (a n : ℤ) (b : Bool) → int_eq a n ≡ b → (a ≤ℤ cond b (a +ℤ pos 1) a) × (cond b (a +ℤ pos 1) a ≡ n → ⊥)
raised_at a n true e = let q = eq_true a n e in (omega (arith, ints), λ (f : (a +ℤ pos 1) ≡ n). omega (arith, ints))
raised_at a n false e = (≤ℤ_refl a, λ (f : a ≡ n). let k : int_eq a n ≡ true = true_eq a n f in let l : true ≡ false = sym k ∙ e in cc)

lowered_at : (a n : ℤ) (b : Bool) → int_eq a n ≡ b → (cond b (a -ℤ pos 1) a ≤ℤ a) × (cond b (a -ℤ pos 1) a ≡ n → ⊥)
lowered_at a n true e = let q = eq_true a n e in (omega (arith, ints), λ (f : (a -ℤ pos 1) ≡ n). omega (arith, ints))
lowered_at a n false e = (≤ℤ_refl a, λ (f : a ≡ n). let k : int_eq a n ≡ true = true_eq a n f in let l : true ≡ false = sym k ∙ e in cc)

without_single : (s t : Span) → t.lo ≡ t.hi → IsLeastWith (IsRelated Ne s t) (without_end s t.lo)
without_single s t e = from_to Ne s t _ _
    (λ z r. let l = r.of in let m = r.of_other in let o : r.other ≡ t.lo = omega (arith, ints) in
    let f : z ≡ t.lo → ⊥ = λ (d : z ≡ t.lo). differs z r.other r.related (d ∙ sym o) in
    (lower_without s.lo t.lo z l.0 f, upper_without s.hi t.lo z l.1 f))
    (λ o. let a = raised_at s.lo t.lo (int_eq s.lo t.lo) refl in let b = lowered_at s.hi t.lo (int_eq s.hi t.lo) refl in
    let a' = a.0 in let b' = b.0 in (
      record { of = (a', omega (arith, ints)); other = t.lo; of_other = at_lo t; related = unequal _ _ a.1 },
      record { of = (omega (arith, ints), b'); other = t.lo; of_other = at_lo t; related = unequal _ _ b.1 },
    ))

-- each number differs from one of two different numbers
other_end : (t : Span) (z : ℤ) → (t.lo ≡ t.hi → ⊥) → (m : ℤ) × (Stands (Of t) m) × (holds Ne z m ≡ true)
other_end t z n = elim (cases_Bool (int_eq z t.lo)) [
  | inr f ↦ (t.lo, at_lo t, (grind arith))
  | inl e ↦ (t.hi, at_hi t, unequal z t.hi (λ (d : z ≡ t.hi). n (sym (eq_true z t.lo e) ∙ d)))
]

with_several : (s t : Span) → (t.lo ≡ t.hi → ⊥) → IsLeastWith (IsRelated Ne s t) (Of s)
with_several s t n = subst (IsLeastWith (IsRelated Ne s t)) (between_own s) (from_to Ne s t s.lo s.hi (λ z r. r.of)
    (λ o. let p = other_end t s.lo n in let q = other_end t s.hi n in
    (record { of = at_lo s; other = p.0; of_other = p.1; related = p.2 }, record { of = at_hi s; other = q.0; of_other = q.1; related = q.2 })))

refined_ne_at : (s t : Span) (b : Bool) → int_eq t.lo t.hi ≡ b → IsLeastWith (IsRelated Ne s t) (cond b (without_end s t.lo) (Of s))
refined_ne_at s t true e = without_single s t (eq_true _ _ e)
refined_ne_at s t false e = with_several s t (λ (d : t.lo ≡ t.hi). let k : int_eq t.lo t.hi ≡ true = true_eq _ _ d in let l : true ≡ false = sym k ∙ e in cc)

pub refined_best : (rel : Rel) (s t : Span) → IsLeastWith (IsRelated rel s t) (refined rel s t)
refined_best Lt s t = refined_lt s t
refined_best Le s t = refined_le s t
refined_best Gt s t = refined_gt s t
refined_best Ge s t = refined_ge s t
refined_best Eq s t = refined_eq s t
refined_best Ne s t = refined_ne_at s t (int_eq t.lo t.hi) refl

-- Comparing and refining.
use Rattle.std.specs.Prelude.{◌≡◌, ℤ, Bool, true, false, not, refl, ◌⊎◌, ◌↔◌}
use Rattle.std.proofs.Common.{arith, ap, sym, subst, ◌∙◌, inl, inr}
use Rattle.std.proofs.lemmas.Int.{ints}
use Rattle.std.proofs.lemmas.Bool.{cases_Bool, and_from, not_from_false}
use lib.Signed.{≤ℤ_refl}
use Rattle.cc_base.specs.MachineArithmetic.{holds}
use Rattle.cc_base.specs.Truths.{tri_of, can_hold, can_fail}
use Rattle.cc_base.specs.LatticeParts.{flag_leq}
use Rattle.cc_base.specs.IntegerLaws.{tri_leq}
use Rattle.cc_base.specs.declared.integer_operators.Rel.{Rel}
use Rattle.cc_base.specs.declared.integer_operators.Rel.TheVariants.{Lt, Le, Gt, Ge, Eq, Ne}
use Rattle.cc_base.specs.declared.integer_operators.Tri.TheVariants.{Never}
use Rattle.interval_domain.specs.declared.intervals.spans.Span.{Span}
use Rattle.interval_domain.specs.declared.intervals.intervals.Interval.{Interval}
use Rattle.interval_domain.specs.declared.intervals.intervals.Interval.TheVariants.{Bottom, Of}
use Rattle.interval_domain.specs.Intervals.Spans.{Stands}
use Rattle.interval_domain.specs.Intervals.IntervalOrder.{interval_leq}
use Rattle.interval_domain.specs.Intervals.Relations as relation
use Rattle.interval_domain.specs.Intervals.BestRelations.{SomePair, pair_from, pair_to, refined_best}
use Rattle.domain_theorems.specs.Intervals.Kit.{Within, within, within_stands, least_monotone}

-- ---- truth values

tri_holds : (a b : Bool) → can_hold (tri_of a b) ≡ a
tri_holds true true = refl
tri_holds true false = refl
tri_holds false true = refl
tri_holds false false = refl

tri_fails : (a b : Bool) → can_fail (tri_of a b) ≡ b
tri_fails true true = refl
tri_fails true false = refl
tri_fails false true = refl
tri_fails false false = refl

flag_from : (a b : Bool) → (a ≡ true → b ≡ true) → flag_leq a b ≡ true
flag_from true b f = f refl
flag_from false b f = refl

tri_monotone : (a b c d : Bool) → (a ≡ true → c ≡ true) → (b ≡ true → d ≡ true) → tri_leq (tri_of a b) (tri_of c d) ≡ true
tri_monotone a b c d f g = and_from _ _
    (flag_from _ _ (λ e. tri_holds c d ∙ f (sym (tri_holds a b) ∙ e)))
    (flag_from _ _ (λ e. tri_fails c d ∙ g (sym (tri_fails a b) ∙ e)))

-- ---- comparing

larger_pair : (rel : Rel) (s t u v : Span) → Within s u → Within t v → SomePair rel s t → SomePair rel u v
larger_pair rel s t u v w x p = record { left = p.left; right = p.right; of_left = within_stands s u p.left w p.of_left; of_right = within_stands t v p.right x p.of_right; related = p.related }

can_rise : (rel : Rel) (s t u v : Span) → Within s u → Within t v → relation.can_hold rel s t ≡ true → relation.can_hold rel u v ≡ true
can_rise rel s t u v w x h = pair_to rel u v (larger_pair rel s t u v w x (pair_from rel s t h))

pub compare_monotone : (rel : Rel) (x y u v : Interval) → interval_leq x u ≡ true → interval_leq y v ≡ true → tri_leq (relation.interval_compare rel x y) (relation.interval_compare rel u v) ≡ true
compare_monotone rel Bottom y u v h k = refl
compare_monotone rel (Of s) Bottom u v h k = refl
compare_monotone rel (Of s) (Of t) Bottom v h k = cc
compare_monotone rel (Of s) (Of t) (Of u) Bottom h k = cc
compare_monotone rel (Of s) (Of t) (Of u) (Of v) h k = tri_monotone _ _ _ _
    (can_rise rel s t u v (within s u h) (within t v k))
    (can_rise (relation.opposite rel) s t u v (within s u h) (within t v k))

pub compare_holds : (rel : Rel) (x y : Interval) (a b : ℤ) → Stands x a → Stands y b → holds rel a b ≡ true → can_hold (relation.interval_compare rel x y) ≡ true
compare_holds rel Bottom y a b p q h = absurd p
compare_holds rel (Of s) Bottom a b p q h = absurd q
compare_holds rel (Of s) (Of t) a b p q h = tri_holds _ _ ∙ pair_to rel s t (record { left = a; right = b; of_left = p; of_right = q; related = h })

not_false : (b : Bool) → not b ≡ false → b ≡ true
not_false true h = refl
not_false false h = cc

-- where a relation does not hold, the opposite one does
opposite_holds : (rel : Rel) (a b : ℤ) → holds rel a b ≡ false → holds (relation.opposite rel) a b ≡ true
opposite_holds Lt a b h = grind (arith, ints)
opposite_holds Le a b h = grind (arith, ints)
opposite_holds Gt a b h = grind (arith, ints)
opposite_holds Ge a b h = grind (arith, ints)
opposite_holds Eq a b h = not_from_false _ h
opposite_holds Ne a b h = not_false _ h

pub compare_fails : (rel : Rel) (x y : Interval) (a b : ℤ) → Stands x a → Stands y b → holds rel a b ≡ false → can_fail (relation.interval_compare rel x y) ≡ true
compare_fails rel Bottom y a b p q h = absurd p
compare_fails rel (Of s) Bottom a b p q h = absurd q
compare_fails rel (Of s) (Of t) a b p q h = tri_fails _ _ ∙ pair_to (relation.opposite rel) s t (record { left = a; right = b; of_left = p; of_right = q; related = opposite_holds rel a b h })

-- two spans have a pair of numbers, and so a truth value
never_from : (rel : Rel) (x y : Interval) → relation.interval_compare rel x y ≡ Never → (x ≡ Bottom) ⊎ (y ≡ Bottom)
never_from rel Bottom y e = inl refl
never_from rel (Of s) Bottom e = inr refl
never_from rel (Of s) (Of t) e = elim (cases_Bool (holds rel s.lo t.lo)) [
  | inl h ↦ (let c = compare_holds rel (Of s) (Of t) s.lo t.lo (≤ℤ_refl s.lo, s.ordered) (≤ℤ_refl t.lo, t.ordered) h in let d : false ≡ true = sym (ap can_hold e) ∙ c in cc)
  | inr h ↦ (let c = compare_fails rel (Of s) (Of t) s.lo t.lo (≤ℤ_refl s.lo, s.ordered) (≤ℤ_refl t.lo, t.ordered) h in let d : false ≡ true = sym (ap can_fail e) ∙ c in cc)
]

never_right : (rel : Rel) (x : Interval) → relation.interval_compare rel x Bottom ≡ Never
never_right rel Bottom = refl
never_right rel (Of s) = refl

never_to : (rel : Rel) (x y : Interval) → (x ≡ Bottom) ⊎ (y ≡ Bottom) → relation.interval_compare rel x y ≡ Never
never_to rel x y (inl e) = subst (λ z. relation.interval_compare rel z y ≡ Never) (sym e) refl
never_to rel x y (inr e) = subst (λ z. relation.interval_compare rel x z ≡ Never) (sym e) (never_right rel x)

pub compare_never : (rel : Rel) (x y : Interval) → (relation.interval_compare rel x y ≡ Never) ↔ ((x ≡ Bottom) ⊎ (y ≡ Bottom))
compare_never rel x y = (never_from rel x y, never_to rel x y)

-- ---- refining

pub refine_monotone : (rel : Rel) (x y u v : Interval) → interval_leq x u ≡ true → interval_leq y v ≡ true → interval_leq (relation.interval_refine rel x y) (relation.interval_refine rel u v) ≡ true
refine_monotone rel Bottom y u v h k = refl
refine_monotone rel (Of s) Bottom u v h k = refl
refine_monotone rel (Of s) (Of t) Bottom v h k = cc
refine_monotone rel (Of s) (Of t) (Of u) Bottom h k = cc
refine_monotone rel (Of s) (Of t) (Of u) (Of v) h k = least_monotone _ _ _ _
    (λ z r. record { of = within_stands s u z (within s u h) r.of; other = r.other; of_other = within_stands t v r.other (within t v k) r.of_other; related = r.related })
    (refined_best rel s t) (refined_best rel u v)

pub refine_stands : (rel : Rel) (x y : Interval) (a b : ℤ) → Stands x a → Stands y b → holds rel a b ≡ true → Stands (relation.interval_refine rel x y) a
refine_stands rel Bottom y a b p q h = absurd p
refine_stands rel (Of s) Bottom a b p q h = absurd q
refine_stands rel (Of s) (Of t) a b p q h = (refined_best rel s t).holds a (record { of = p; other = b; of_other = q; related = h })

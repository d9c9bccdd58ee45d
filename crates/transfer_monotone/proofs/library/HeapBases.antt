-- The heap bases of larger sets.
use Rattle.std.specs.Prelude.{◌≡◌, ℕ, zero, suc, ◌+◌, ◌<◌, Bool, true, false, nat_lt, Some, List, [], ◌∷◌, length, slice_get, refl, ◌⊎◌}
use Rattle.std.proofs.Common.{arith, sym, subst, inl, inr, ◌∙◌}
use Rattle.std.proofs.lemmas.Bool.{cases_eq, and_parts, and_from, or_cases, cond-true, cond-false, ltb-true}
use Rattle.c_layout.specs.declared.shapes.BaseInfo.{BaseInfo}
use Rattle.pointer_domain.specs.declared.base_sets.Bases.{Bases}
use Rattle.pointer_domain.specs.BaseSets.{no_base, bases_has, bases_with, bases_union, bases_within, bases_empty}
use Rattle.pointer_domain.specs.BaseFacts.{union_has, within_has, with_has_same, with_has_other}
use Rattle.pointer_domain.specs.BaseLattice.{bases_order}
use Rattle.domain_theorems.proofs.values.BaseChanges.{has_none}
use Rattle.domain_theorems.proofs.values.Bases.{empty_below}
use Rattle.store_objects.specs.Freeing.{is_heap_in}
use Rattle.store_objects.specs.LiveBases.{most_bases, only_base, has_base, with_base_if}
use Rattle.store_cells.specs.Walks.{walk}
use Rattle.store_monotone.proofs.operations.LiveSets.{has_monotone}
use Rattle.transfer_checks.specs.AllocationChecks.{heap_of}
use Rattle.transfer_monotone.proofs.values.PointerSteps.{found_below}

-- a set of one base has no other one
only_has : (at number : ℕ) → number < 1016 → bases_has (only_base at) number ≡ true → at ≡ number
only_has at number h e = by_named (nat_lt at most_bases) refl
  where
    none : bases_has no_base number ≡ true → at ≡ number
    none f = absurd (has_none no_base number refl f)

    by_named : (c : Bool) → nat_lt at most_bases ≡ c → at ≡ number
    by_named false f = none (subst (λ s. bases_has s number ≡ true) (cond-false (nat_lt at most_bases) (bases_with no_base at) no_base f) e)
    by_named true f = elim (cases_eq at number) [
      | inl p ↦ p
      | inr p ↦ none (sym (with_has_other no_base at number (ltb-true at most_bases f) h p) ∙ subst (λ s. bases_has s number ≡ true) (cond-true (nat_lt at most_bases) (bases_with no_base at) no_base f) e)
    ]

-- the base of a list that has a number
record Found (wanted : BaseInfo → ℕ → Bool) (at : ℕ) (bases : List BaseInfo) (number : ℕ) : Type 0 where
  place : ℕ
  base : BaseInfo
  number_is : number ≡ at + place
  found : slice_get bases place ≡ Some base
  is_wanted : wanted base number ≡ true

same_some : {K : Type 0} (x y : K) → Some x ≡ Some y → x ≡ y
same_some x y e = cc

-- ---- sets to which the wanted bases of a list are added

module _ (wanted : BaseInfo → ℕ → Bool) where
  abbrev pub add : BaseInfo → ℕ → Bases → Bases
  add base number found = with_base_if (wanted base number) number found

  added_keeps : (w : Bool) (number : ℕ) (x t : Bases) → bases_within t x ≡ true → bases_within t (with_base_if w number x) ≡ true
  added_keeps true number x t h = bases_order.transitive t x (bases_union x (only_base number)) h (bases_order.join_left x (only_base number))
  added_keeps false number x t h = h

  added_has : (w : Bool) (number : ℕ) (x : Bases) → w ≡ true → bases_within (only_base number) (with_base_if w number x) ≡ true
  added_has true number x h = bases_order.join_right x (only_base number)
  added_has false number x h = absurd (cc)

  made_keeps : (bases : List BaseInfo) (at : ℕ) (x t : Bases) → bases_within t x ≡ true → bases_within t (walk add at bases x) ≡ true
  made_keeps [] at x t h = h
  made_keeps (base ∷ bases) at x t h = made_keeps bases (at + 1) (add base at x) t (added_keeps (wanted base at) at x t h)

  made_has : (bases : List BaseInfo) (at : ℕ) (x : Bases) (place number : ℕ) (base : BaseInfo) → number ≡ at + place → slice_get bases place ≡ Some base → wanted base number ≡ true → bases_within (only_base number) (walk add at bases x) ≡ true
  made_has [] at x place number base e f h = absurd (cc)
  made_has (c ∷ bases) at x zero number base e f h =
      let p : number ≡ at = omega arith in
      let w : wanted c at ≡ true = subst (λ z. wanted c z ≡ true) p (subst (λ z. wanted z number ≡ true) (sym (same_some c base f)) h) in
      subst (λ z. bases_within (only_base z) (walk add (at + 1) bases (add c at x)) ≡ true) (sym p) (made_keeps bases (at + 1) (add c at x) (only_base at) (added_has (wanted c at) at x w))
  made_has (c ∷ bases) at x (suc place) number base e f h = made_has bases (at + 1) (add c at x) place number base (omega arith) f h

  made_below : (bases : List BaseInfo) (at : ℕ) (x t : Bases) → bases_within x t ≡ true → ((place number : ℕ) (base : BaseInfo) → number ≡ at + place → slice_get bases place ≡ Some base → wanted base number ≡ true → bases_within (only_base number) t ≡ true)
      → bases_within (walk add at bases x) t ≡ true
  made_below [] at x t h k = h
  made_below (c ∷ bases) at x t h k = made_below bases (at + 1) (add c at x) t (below (wanted c at) refl) (λ place number base e f w. k (suc place) number base (omega arith) f w)
    where
      below : (w : Bool) → wanted c at ≡ w → bases_within (with_base_if w at x) t ≡ true
      below true e = bases_order.join_least x (only_base at) t h (k zero at c (omega arith) refl e)
      below false e = h

  made_from : (bases : List BaseInfo) (at : ℕ) (x : Bases) (number : ℕ) → number < 1016 → bases_has (walk add at bases x) number ≡ true → (bases_has x number ≡ true) ⊎ Found wanted at bases number
  made_from [] at x number k h = inl h
  made_from (c ∷ bases) at x number k h = elim (made_from bases (at + 1) (add c at x) number k h) [
    | inl e ↦ here (wanted c at) refl e
    | inr q ↦ inr (record { place = suc q.place; base = q.base; number_is = (let e = q.number_is in omega arith); found = q.found; is_wanted = q.is_wanted })
  ]
    where
      here : (w : Bool) → wanted c at ≡ w → bases_has (with_base_if w at x) number ≡ true → (bases_has x number ≡ true) ⊎ Found wanted at (c ∷ bases) number
      here false e f = inl f
      here true e f = elim (or_cases (bases_has x number) (bases_has (only_base at) number) (sym (union_has x (only_base at) number) ∙ f)) [
        | inl p ↦ inl p
        | inr p ↦ (let q = only_has at number k p in inr (record { place = zero; base = c; number_is = (omega arith); found = refl; is_wanted = subst (λ z. wanted c z ≡ true) q e }))
      ]

-- ---- heap bases

pub heap_more : (bases : List BaseInfo) (set more : Bases) → bases_within set more ≡ true → bases_within (heap_of bases set) (heap_of bases more) ≡ true
unfolding heap_of
heap_more bases set more h = made_below (is_heap_in set) bases 0 no_base (heap_of bases more) (bases_order.least_below (heap_of bases more))
    (λ place number base e f w. let p = and_parts (has_base set number) base.shape.heap w in made_has (is_heap_in more) bases 0 no_base place number base e f (and_from (has_base more number) base.shape.heap (has_monotone set more number h p.0) p.1))

pub heap_own : (all : Bases) (bases : List BaseInfo) → ((number : ℕ) → number < length bases → bases_within (only_base number) all ≡ true) → (set : Bases) → bases_within (heap_of bases set) all ≡ true
unfolding heap_of
heap_own all bases named set = made_below (is_heap_in set) bases 0 no_base all (bases_order.least_below all)
    (λ place number base e f w. let q : number ≡ place = omega arith in named number (found_below bases number base (subst (λ z. slice_get bases z ≡ Some base) (sym q) f)))

pub heap_empty : (bases : List BaseInfo) (set : Bases) → bases_empty set ≡ true → bases_empty (heap_of bases set) ≡ true
unfolding heap_of
heap_empty bases set h = empty_below (heap_of bases set) no_base
    (made_below (is_heap_in set) bases 0 no_base no_base (bases_order.least_below no_base) (λ place number base e f w. absurd (has_none set number h (and_parts (nat_lt number most_bases) (bases_has set number) (and_parts (has_base set number) base.shape.heap w).0).1))) refl

-- where all bases of a set are heap bases, all of a smaller one are, which is made of bases of the program
pub heap_fewer : (wanted : BaseInfo → ℕ → Bool) (bases : List BaseInfo) (more : Bases) → bases_within (walk (add wanted) 0 bases no_base) more ≡ true → bases_within more (heap_of bases more) ≡ true → bases_within (walk (add wanted) 0 bases no_base) (heap_of bases (walk (add wanted) 0 bases no_base)) ≡ true
unfolding heap_of
heap_fewer wanted bases more h k = made_below wanted bases 0 no_base (heap_of bases live) (bases_order.least_below (heap_of bases live)) (λ place number base e f w. by_named place number base e f w (nat_lt number most_bases) refl)
  where
    live : Bases
    live = walk (add wanted) 0 bases no_base

    by_named : (place number : ℕ) (base : BaseInfo) → number ≡ 0 + place → slice_get bases place ≡ Some base → wanted base number ≡ true → (c : Bool) → nat_lt number most_bases ≡ c → bases_within (only_base number) (heap_of bases live) ≡ true
    by_named place number base e f w false j = subst (λ s. bases_within s (heap_of bases live) ≡ true) (sym (cond-false (nat_lt number most_bases) (bases_with no_base number) no_base j)) (bases_order.least_below (heap_of bases live))
    by_named place number base e f w true j =
        let few : number < 1016 = ltb-true number most_bases j in
        let own : bases_has (only_base number) number ≡ true = subst (λ s. bases_has s number ≡ true) (sym (cond-true (nat_lt number most_bases) (bases_with no_base number) no_base j)) (with_has_same no_base number) in
        let has : bases_has live number ≡ true = within_has (only_base number) live number (made_has wanted bases 0 no_base place number base e f w) own in
        let in_heap : bases_has (heap_of bases more) number ≡ true = within_has more (heap_of bases more) number k (within_has live more number h has) in
        elim (made_from (is_heap_in more) bases 0 no_base number few in_heap) [
          | inl p ↦ absurd (has_none no_base number refl p)
          | inr q ↦ (
              let d = q.number_is in
              let same_place : q.place ≡ place = omega arith in
              let same_base : q.base ≡ base = same_some q.base base (sym q.found ∙ subst (λ z. slice_get bases z ≡ Some base) (sym same_place) f) in
              let heap : base.shape.heap ≡ true = subst (λ (z : BaseInfo). z.shape.heap ≡ true) same_base (and_parts (has_base more number) q.base.shape.heap q.is_wanted).1 in
              made_has (is_heap_in live) bases 0 no_base place number base e f (and_from (has_base live number) base.shape.heap (and_from (nat_lt number most_bases) (bases_has live number) j has) heap))
        ]

-- What lives beside new objects.
use Rattle.std.proofs.Common.{◌≡◌, ◌<◌, ◌≤◌, ◌⊎◌, inl, inr, ℕ, ◌==◌, true, false, not, ◌||◌, List, [], ◌∷◌, ◌++◌, arith, refl, ap, eq-eqb}
use Rattle.semantics.specs.SourceMachine.Scopes.{is_in}
use Rattle.source_preservation.proofs.checks.Truths.{never}
use Rattle.source_preservation.specs.UnitChecks.LookedScopes.{are_distinct, are_apart, are_new}
use Rattle.c_types_well_formed_units.specs.Scoped.SeenObjects.{AreNew}
use Rattle.c_types_well_formed_units.proofs.scoped.Numbers.{two, unlike, either_is, not_false, in_parts}
use Rattle.c_types_well_formed_units.specs.ScopedBodies.ScopedBodies.{Apart}

pub apart_first : (alive xs ys : List ℕ) (few middle many : ℕ) → middle ≤ many → AreNew ys middle many → Apart alive few many (xs ++ ys) → Apart alive few middle xs
apart_first alive xs ys few middle many high new apart k is = elim (apart k is) [
  | inl before ↦ inl before
  | inr (inl behind) ↦ inr (inl (omega (arith, behind, high)))
  | inr (inr either) ↦ elim (in_parts k xs ys either) [ inl front ↦ inr (inr front) | inr back ↦ inr (inl (new.least k back)) ]
]

pub apart_second : (alive xs ys : List ℕ) (few middle many : ℕ) → few ≤ middle → AreNew xs few middle → Apart alive few many (xs ++ ys) → Apart alive middle many ys
apart_second alive xs ys few middle many low new apart k is = elim (apart k is) [
  | inl before ↦ inl (omega (arith, before, low))
  | inr (inl behind) ↦ inr (inl behind)
  | inr (inr either) ↦ elim (in_parts k xs ys either) [ inl front ↦ inl (new.most k front) | inr back ↦ inr (inr back) ]
]

-- with the new ones
pub apart_inside : (alive new : List ℕ) (few many : ℕ) → Apart alive few many [] → Apart (new ++ alive) few many new
apart_inside alive new few many apart k is = elim (in_parts k new alive is) [ inl front ↦ inr (inr front) | inr back ↦ old (apart k back) ]
  where
    old : (k < few) ⊎ ((many ≤ k) ⊎ (is_in k [] ≡ true)) → (k < few) ⊎ ((many ≤ k) ⊎ (is_in k new ≡ true))
    old (inl before) = inl before
    old (inr (inl behind)) = inr (inl behind)
    old (inr (inr none)) = never none

apart_all : (alive new : List ℕ) → ((k : ℕ) → is_in k new ≡ true → is_in k alive ≡ false) → are_apart alive new ≡ true
apart_all alive [] h = refl
apart_all alive (n ∷ ns) h = two (not (is_in n alive)) (are_apart alive ns) (not_false (is_in n alive) (h n (ap (λ b. b || is_in n ns) (eq-eqb n n refl)))) (apart_all alive ns (λ k is. h k (either_is (k == n) (is_in k ns) is)))

-- new numbers are none of those that live
pub new_beside : (alive new : List ℕ) (few many : ℕ) → AreNew new few many → Apart alive few many [] → are_new new alive ≡ true
new_beside alive new few many news apart =
    two (are_distinct new) (are_apart alive new) news.distinct
    (apart_all alive new (λ k is. unlike (is_in k alive) (λ lives. elim (apart k lives) [
      | inl before ↦ (let a = news.least k is in omega (arith, a, before))
      | inr (inl behind) ↦ (let a = news.most k is in omega (arith, a, behind))
      | inr (inr none) ↦ never none
    ])))

-- behind the new ones they are old
pub apart_behind : (alive new : List ℕ) (few middle many : ℕ) → few ≤ middle → AreNew new few middle → Apart alive few many new → Apart alive middle many []
apart_behind alive new few middle many low news apart k is = elim (apart k is) [
  | inl before ↦ inl (omega (arith, before, low))
  | inr (inl behind) ↦ inr (inl behind)
  | inr (inr now) ↦ inl (news.most k now)
]

pub apart_before : (alive new : List ℕ) (few many high : ℕ) → many ≤ high → Apart alive few high new → Apart alive few many new
apart_before alive new few many high more apart k is = elim (apart k is) [
  | inl before ↦ inl before
  | inr (inl behind) ↦ inr (inl (omega (arith, behind, more)))
  | inr (inr now) ↦ inr (inr now)
]

pub apart_after : (alive new : List ℕ) (few low many : ℕ) → few ≤ low → Apart alive few many new → Apart alive low many new
apart_after alive new few low many more apart k is = elim (apart k is) [
  | inl before ↦ inl (omega (arith, before, more))
  | inr (inl behind) ↦ inr (inl behind)
  | inr (inr now) ↦ inr (inr now)
]

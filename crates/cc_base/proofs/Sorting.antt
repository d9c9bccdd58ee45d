-- Sorting a list and dropping repeats leaves an ascending list of some of its elements.
use Rattle.std.proofs.Common.{◌≡◌, Bool, true, Any, List, [], sym, subst, IsPermutation, Contains}
use Rattle.std.specs.Ordering.{eq_by_cmp}
use Rattle.std.specs.Cmp.{IsTotalOrder, IsEquivalence}
use Rattle.std.specs.List.Sorted.{IsSorted, IsStrictlySortedBy}
use Rattle.std.specs.List.Retain.{IsFiltered, DiffersFromLast}
use Rattle.std.specs.declared.cmp.Ordering.{Ordering}
use Rattle.std.proofs.lemmas.List.Filters.{dedup_is}
use Rattle.std.proofs.lemmas.List.Kept.{IsStrictlySortedBy-dedup, Any-dedup, Contains-from_dedup}
use Rattle.std.proofs.lemmas.List.Sorted.{Contains-permutation, IsPermutation-sym}

-- what is left ascends
pub ordered_ascends : {A : Type 0} (eq : A → A → Bool) (cmp : A → A → Ordering) (total : IsTotalOrder cmp) (ties : (x y : A) → eq x y ≡ eq_by_cmp cmp x y) (sorted now : List A) → IsSorted cmp sorted → IsFiltered (DiffersFromLast eq) [] sorted now → IsStrictlySortedBy cmp now
ordered_ascends eq cmp total ties sorted now s f =
    subst (λ l. IsStrictlySortedBy cmp l) (sym (dedup_is eq sorted now f)) (IsStrictlySortedBy-dedup total ties sorted s)

-- and is of the list
pub ordered_made : {A : Type 0} (eq : A → A → Bool) (old sorted now : List A) → IsPermutation old sorted → IsFiltered (DiffersFromLast eq) [] sorted now → (x : A) → Contains now x → Contains old x
ordered_made eq old sorted now p f x c =
    Contains-permutation sorted old x (IsPermutation-sym old sorted p) (Contains-from_dedup eq sorted x (subst (λ l. Contains l x) (dedup_is eq sorted now f) c))

-- and each element of the list is the same as one of them
pub ordered_kept : {A : Type 0} (eq : A → A → Bool) (same : IsEquivalence eq) (old sorted now : List A) → IsPermutation old sorted → IsFiltered (DiffersFromLast eq) [] sorted now → (x : A) → Contains old x → Any (λ y. eq x y ≡ true) now
ordered_kept eq same old sorted now p f x c =
    subst (λ l. Any (λ y. eq x y ≡ true) l) (sym (dedup_is eq sorted now f)) (Any-dedup same sorted x (Contains-permutation old sorted x p c))

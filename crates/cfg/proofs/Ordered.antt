-- Sorting numbers and dropping repeats leaves an ascending list of the same numbers.
use Rattle.std.proofs.Common.{◌≡◌, ℤ, Bool, true, false, ◌&&◌, List, [], ◌∷◌, refl, sym, ap, cond, int_lt, subst, ◌∙◌, IsPermutation, Contains}
use Rattle.std.specs.Ordering.{int_cmp, int_eq, eq_by_cmp}
use Rattle.std.specs.List.{dedup}
use Rattle.std.specs.List.Sorted.{IsSorted, IsStrictlySortedBy}
use Rattle.std.specs.List.Retain.{IsFiltered, DiffersFromLast}
use Rattle.std.specs.declared.cmp.Ordering.TheVariants.{Less, Equal, Greater}
use Rattle.std.proofs.lemmas.Cmp.{int_cmp_total, int_eq_equiv}
use Rattle.std.proofs.lemmas.List.Filters.{dedup_is}
use Rattle.std.proofs.lemmas.List.Kept.{IsStrictlySortedBy-dedup, Contains-dedup, Contains-from_dedup}
use Rattle.std.proofs.lemmas.List.Sorted.{Contains-permutation, IsPermutation-sym}
use Rattle.std.proofs.lemmas.Bool.Decides.{Decides-int_eq}
use Rattle.cc_base.specs.Ascending.{is_ascending}

both : (a b : Bool) → a ≡ true → b ≡ true → (a && b) ≡ true
both a b p q = ap (λ x. x && b) p ∙ q

less_is : (a b : Bool) → cond a Less (cond b Greater Equal) ≡ Less → a ≡ true
less_is true b e = refl
less_is false true e = cc
less_is false false e = cc

below : (x y : ℤ) → int_cmp x y ≡ Less → int_lt x y ≡ true
below x y e = less_is (int_lt x y) (int_lt y x) e

ascends : (xs : List ℤ) → IsStrictlySortedBy int_cmp xs → is_ascending xs ≡ true
unfolding IsStrictlySortedBy
ascends [] s = refl
ascends (x ∷ []) s = refl
ascends (x ∷ (y ∷ r)) s = both _ (is_ascending (y ∷ r)) (below x y s.0.0) (ascends (y ∷ r) s.1)

ties : (x y : ℤ) → int_eq x y ≡ eq_by_cmp int_cmp x y
ties x y = refl

same_number : (x y : ℤ) → int_eq x y ≡ true → x ≡ y
same_number x y e = (Decides-int_eq x y).0 e

-- what is left ascends
pub ordered_ascends : (sorted now : List ℤ) → IsSorted int_cmp sorted → IsFiltered (DiffersFromLast int_eq) [] sorted now → is_ascending now ≡ true
ordered_ascends sorted now s f =
    subst (λ l. is_ascending l ≡ true) (sym (dedup_is int_eq sorted now f)) (ascends (dedup int_eq sorted) (IsStrictlySortedBy-dedup int_cmp_total ties sorted s))

-- every number is left
pub ordered_kept : (old sorted now : List ℤ) → IsPermutation old sorted → IsFiltered (DiffersFromLast int_eq) [] sorted now → (n : ℤ) → Contains old n → Contains now n
ordered_kept old sorted now p f n c =
    subst (λ l. Contains l n) (sym (dedup_is int_eq sorted now f)) (Contains-dedup int_eq_equiv same_number sorted n (Contains-permutation old sorted n p c))

-- and no other one
pub ordered_made : (old sorted now : List ℤ) → IsPermutation old sorted → IsFiltered (DiffersFromLast int_eq) [] sorted now → (n : ℤ) → Contains now n → Contains old n
ordered_made old sorted now p f n c =
    Contains-permutation sorted old n (IsPermutation-sym old sorted p) (Contains-from_dedup int_eq sorted n (subst (λ l. Contains l n) (dedup_is int_eq sorted now f) c))

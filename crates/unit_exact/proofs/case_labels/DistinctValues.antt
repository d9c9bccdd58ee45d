-- Distinct values, and one more.
use Rattle.std.proofs.Common.{◌≡◌, ℤ, true, false, not, ◌||◌, List, [], ◌∷◌, ◌++◌, refl, sym, ◌∙◌}
use Rattle.std.specs.List.{list_any}
use Rattle.std.specs.Ordering.{int_eq}
use Rattle.std.proofs.lemmas.Bool.{and_parts, and_from, or_parts, or_from, not-true, not_from_false}
use Rattle.std.proofs.lemmas.Bool.Decides.{Decides-int_eq, Decides-like, same_from_decides}
use Rattle.std.proofs.lemmas.List.Folds.{list_any-append}
use Rattle.unit_exact.specs.CaseLabels.DistinctCases.{are_distinct}

pub same_back : (a b : ℤ) → int_eq a b ≡ int_eq b a
same_back a b = same_from_decides (int_eq a b) (int_eq b a) (Decides-int_eq a b) (Decides-like (int_eq b a) (λ e. sym e) (λ e. sym e) (Decides-int_eq b a))

pub distinct_more : (ns : List ℤ) (v : ℤ) → are_distinct ns ≡ true → list_any (int_eq v) ns ≡ false → are_distinct (ns ++ v ∷ []) ≡ true
distinct_more [] v apart new = refl
distinct_more (n ∷ ns) v apart new =
    let first = and_parts (not (list_any (int_eq n) ns)) (are_distinct ns) apart in
    let other = or_parts (int_eq v n) (list_any (int_eq v) ns) new in
    let last = or_from (int_eq n v) false (same_back n v ∙ other.0) refl in
    let none = list_any-append (int_eq n) ns (v ∷ []) ∙ or_from (list_any (int_eq n) ns) (int_eq n v || false) (not-true (list_any (int_eq n) ns) first.0) last in
    and_from (not (list_any (int_eq n) (ns ++ v ∷ []))) (are_distinct (ns ++ v ∷ [])) (not_from_false (list_any (int_eq n) (ns ++ v ∷ [])) none) (distinct_more ns v first.1 other.1)

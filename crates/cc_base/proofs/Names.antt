-- Names of files are compared byte by byte, and a look-up finds what stands first under a name.
use Rattle.std.proofs.Common.{◌≡◌, ℕ, List, ◌∷◌, Bool, true, false, nat_eq, Some, Option, sym, ap, ◌∙◌, cond}
use Rattle.std.specs.Ordering.{nat_cmp, eq_by_cmp}
use Rattle.std.specs.Cmp.Lexicographic.{slice_cmp, pointwise, texts_ties}
use Rattle.std.specs.FinMap.{find, get, from_entries, get-from_entries}
use Rattle.std.proofs.lemmas.Cmp.{nat_list_cmp_total}

pub named : (xs ys : List ℕ) → pointwise nat_eq xs ys ≡ eq_by_cmp (slice_cmp nat_cmp) xs ys
named xs ys = texts_ties xs ys

abbrev look : List ℕ → List (List ℕ × List ℕ) → Option (List ℕ)
look name entries = find (slice_cmp nat_cmp) name entries

-- an entry under the name is found
pub found_first : (name : List ℕ) (whole rest tail : List (List ℕ × List ℕ)) (e : List ℕ × List ℕ) (b : Bool) → look name whole ≡ look name rest → rest ≡ e ∷ tail → b ≡ eq_by_cmp (slice_cmp nat_cmp) name e.0 → b ≡ true → Some e.1 ≡ look name whole
found_first name whole rest tail e b same is test holds =
    sym (same ∙ ap (look name) is ∙ ap (λ t. cond t (Some e.1) (look name tail)) (sym test ∙ holds))

-- an entry under another name is passed over
pub found_later : (name : List ℕ) (whole rest tail : List (List ℕ × List ℕ)) (e : List ℕ × List ℕ) (b : Bool) → look name whole ≡ look name rest → rest ≡ e ∷ tail → b ≡ eq_by_cmp (slice_cmp nat_cmp) name e.0 → b ≡ false → look name whole ≡ look name tail
found_later name whole rest tail e b same is test fails =
    same ∙ ap (look name) is ∙ ap (λ t. cond t (Some e.1) (look name tail)) (sym test ∙ fails)

-- the files of a tree hold what a look-up in its entries finds
pub held_is : (entries : List (List ℕ × List ℕ)) (name : List ℕ) → get (from_entries {R = slice_cmp nat_cmp} entries) name ≡ look name entries
held_is entries name = get-from_entries nat_list_cmp_total entries name

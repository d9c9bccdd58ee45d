-- The numbers of spellings.
use Rattle.std.proofs.Common.{◌≡◌, ℕ, ◌||◌, Bool, true, false, if◌then◌else◌, List, [], ◌∷◌, ◌++◌, map, nat_eq, Vec, Global, vec_items, refl, ◌∙◌, ap}
use Rattle.std.proofs.lemmas.List.{map-append}
use Rattle.std.specs.List.{position_or_len, list_any}
use Rattle.std.specs.Cmp.Lexicographic.{pointwise}
use Rattle.indexmap.specs.IndexSet.{insert_key}

abbrev same : List ℕ → Vec ℕ Global → Bool
same text k = pointwise nat_eq text k.items

place_of_key : (text : List ℕ) (keys : List (Vec ℕ Global)) → position_or_len (same text) keys ≡ position_or_len (pointwise nat_eq text) (map vec_items keys)
place_of_key text [] = refl
place_of_key text (k ∷ keys) = rw (place_of_key text keys) refl

any_key : (text : List ℕ) (keys : List (Vec ℕ Global)) → list_any (same text) keys ≡ list_any (pointwise nat_eq text) (map vec_items keys)
any_key text [] = refl
any_key text (k ∷ keys) = ap (λ b. pointwise nat_eq text k.items || b) (any_key text keys)

pub place-in_texts : (known text : List ℕ) (keys : List (Vec ℕ Global)) → known ≡ text → position_or_len (same known) keys ≡ position_or_len (pointwise nat_eq text) (map vec_items keys)
place-in_texts known text keys e = place_of_key known keys ∙ ap (λ t. position_or_len (pointwise nat_eq t) (map vec_items keys)) e

chosen : (keys : List (Vec ℕ Global)) (k : Vec ℕ Global) (b : Bool) → map vec_items (if b then keys else keys ++ k ∷ []) ≡ if b then map vec_items keys else map vec_items keys ++ k.items ∷ []
chosen keys k true = refl
chosen keys k false = map-append vec_items keys (k ∷ [])

pub key-in_texts : (key : Vec ℕ Global) (text : List ℕ) (keys : List (Vec ℕ Global)) → key.items ≡ text → map vec_items (insert_key (λ x y. same x.items y) keys key) ≡ insert_key (pointwise nat_eq) (map vec_items keys) text
key-in_texts key text keys e =
    chosen keys key (list_any (same key.items) keys)
    ∙ ap (λ b. if b then map vec_items keys else map vec_items keys ++ key.items ∷ []) (any_key key.items keys)
    ∙ ap (λ t. insert_key (pointwise nat_eq) (map vec_items keys) t) e

-- Typedef names as texts.
use Rattle.std.proofs.Common.{◌≡◌, ℕ, ◌||◌, Bool, true, false, if◌then◌else◌, List, [], ◌∷◌, ◌++◌, map, nat_eq, Vec, Global, vec_items, refl, ◌∙◌, ap}
use Rattle.std.proofs.lemmas.List.{map-append}
use Rattle.std.specs.List.{list_any}
use Rattle.std.specs.Cmp.Lexicographic.{pointwise}
use Rattle.indexmap.specs.IndexSet.{insert_key}
use Rattle.c_parser_expression_grammar.specs.Fronts.{with_text}

abbrev same : List ℕ → Vec ℕ Global → Bool
same text k = pointwise nat_eq text k.items

pub any_name : (text : List ℕ) (keys : List (Vec ℕ Global)) → list_any (same text) keys ≡ list_any (pointwise nat_eq text) (map vec_items keys)
any_name text [] = refl
any_name text (k ∷ keys) = ap (λ b. pointwise nat_eq text k.items || b) (any_name text keys)

chosen : (keys : List (Vec ℕ Global)) (k : Vec ℕ Global) (b : Bool) → map vec_items (if b then keys else keys ++ k ∷ []) ≡ if b then map vec_items keys else map vec_items keys ++ k.items ∷ []
chosen keys k true = refl
chosen keys k false = map-append vec_items keys (k ∷ [])

pub name_added : (key : Vec ℕ Global) (text : List ℕ) (keys : List (Vec ℕ Global)) → key.items ≡ text → map vec_items (insert_key (λ x y. same x.items y) keys key) ≡ with_text (map vec_items keys) text
name_added key text keys e =
    chosen keys key (list_any (same key.items) keys)
    ∙ ap (λ b. if b then map vec_items keys else map vec_items keys ++ key.items ∷ []) (any_name key.items keys)
    ∙ ap (λ t. with_text (map vec_items keys) t) e

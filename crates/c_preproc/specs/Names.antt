-- Lists of names without repeats.
use Rattle.std.specs.Prelude.{ℕ, ◌+◌, Bool, true, not, ◌&&◌, cond, List, [], ◌∷◌, Option, Some, None, nat_eq}
use Rattle.std.specs.List.{list_any}
use Rattle.std.specs.Cmp.Lexicographic.{pointwise}

abbrev pub is_among : List ℕ → List (List ℕ) → Bool
is_among name names = list_any (pointwise nat_eq name) names

abbrev pub is_distinct : List (List ℕ) → Bool
is_distinct [] = true
is_distinct (n ∷ ns) = not (is_among n ns) && is_distinct ns

-- the first position of a name, of which the first is `at`
abbrev pub position_from : ℕ → List ℕ → List (List ℕ) → Option ℕ
position_from at name [] = None
position_from at name (n ∷ ns) = cond (pointwise nat_eq name n) (Some at) (position_from (at + 1) name ns)

-- Structs that are known to stand in no circle.
use Rattle.std.specs.Prelude.{◌≡◌, ℕ, Bool, true, false, not, ◌&&◌, cond, nat_lt, List, length, get_or, set, sum_by}
use Rattle.c_layout.specs.StructViews.{StructView, struct_at}
use Rattle.analysis_preconditions.specs.StructNesting.OrderedStructs.{are_made_of, nests_within}

abbrev pub is_known : List Bool → ℕ → Bool
is_known known i = get_or known i false

-- a struct of the table that is not known becomes so where it holds known ones alone
abbrev pub marked : List StructView → List Bool → ℕ → List Bool
marked structs known i = cond (nat_lt i (length known) && (not (is_known known i) && are_made_of (is_known known) (struct_at structs i).fields)) (set known i true) known

abbrev pub count_of : Bool → ℕ
count_of known = cond known 1 0

-- known structs nest at most as deep as there are known ones, in a table of so many
pub record AreKnown (structs : List StructView) (known : List Bool) : Type 0 where
  pub long : length known ≡ length structs
  pub nested : (i : ℕ) → is_known known i ≡ true → nests_within structs (sum_by count_of known) i ≡ true

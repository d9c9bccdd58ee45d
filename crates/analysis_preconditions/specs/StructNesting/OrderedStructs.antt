-- Structs that stand in no circle.
use Rattle.std.specs.Prelude.{ℕ, zero, suc, Bool, true, false, ◌&&◌, List, length}
use Rattle.std.specs.List.{list_all}
use Rattle.c_layout.specs.StructViews.{FieldView, StructView, struct_at}
use Rattle.c_layout.specs.Types.{Ty, Int, Pointer, Array, Struct, Void}

-- a scalar, or a struct that passes a test, through arrays
abbrev pub is_made_of : (ℕ → Bool) → Ty → Bool
is_made_of passes (Int k) = true
is_made_of passes (Pointer t) = true
is_made_of passes (Array t n) = is_made_of passes t
is_made_of passes (Struct i) = passes i
is_made_of passes Void = false

abbrev pub are_made_of : (ℕ → Bool) → List FieldView → Bool
are_made_of passes members = list_all (λ f. is_made_of passes f.ctype) members

-- a struct and those in it nest at most so deep
abbrev pub nests_within : List StructView → ℕ → ℕ → Bool
nests_within structs zero i = false
nests_within structs (suc depth) i = are_made_of (nests_within structs depth) (struct_at structs i).fields

abbrev pub are_below : (ℕ → Bool) → ℕ → Bool
are_below passes zero = true
are_below passes (suc count) = passes count && are_below passes count

-- structs nest at most as deep as there are structs, so that they have an order in which each holds earlier ones alone
abbrev pub are_ordered : List StructView → Bool
are_ordered structs = are_below (nests_within structs (length structs)) (length structs)

-- The shapes of heap bases.
use Rattle.std.specs.Prelude.{ℕ, Bool, true, false, cond, ◌==◌, nat_lt, List, [], ◌∷◌, Option, Some, None}
use Rattle.c_layout.specs.Types.{Ty, Int, Pointer, Array, Struct, Void}
use Rattle.c_layout.specs.StructViews.{StructView}
use Rattle.c_layout.specs.Leaves.{leaves_of}
use Rattle.c_layout.specs.StructLayouts.{leaf_count}
use Rattle.c_layout.specs.declared.leaf_lists.Leaf.{Leaf}
use Rattle.c_layout.specs.declared.shapes.Shape.{Shape}

abbrev pub is_character : Ty → Bool
is_character (Int kind) = kind.rank == 1
is_character (Pointer t) = false
is_character (Array t n) = false
is_character (Struct i) = false
is_character Void = false

-- whether no leaf is folded
abbrev pub are_single : List Leaf → Bool
are_single [] = true
are_single (l ∷ ls) = cond (l.count == 1) (are_single ls) false

abbrev pub unfolded : List Leaf → List Leaf
unfolded ls = cond (are_single ls) ls []

-- the leaves of a type at the start of a heap base: no character type, at most 64, none folded
abbrev pub typed_leaves : List StructView → ℕ → Ty → List Leaf
typed_leaves structs pointer t = cond (is_character t) [] (cond (nat_lt 64 (leaf_count structs t)) [] (unfolded (leaves_of structs pointer t)))

abbrev pub heap_leaves : List StructView → ℕ → Option Ty → List Leaf
heap_leaves structs pointer None = []
heap_leaves structs pointer (Some t) = typed_leaves structs pointer t

-- one first zero for the whole instance
abbrev pub heap_shape : List StructView → ℕ → Option Ty → Shape
heap_shape structs pointer target = record { cells = heap_leaves structs pointer target; zeros = record { offset = 0; size = None } ∷ []; heap = true }

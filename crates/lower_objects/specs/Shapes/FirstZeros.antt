-- The first zeros of an object: one for each of its arrays of characters that lies in no folded array.
use Rattle.std.specs.Prelude.{ℕ, zero, suc, ◌+◌, ◌*◌, Bool, true, false, cond, nat_lt, List, [], ◌∷◌, ◌++◌, length, Some}
use Rattle.c_layout.specs.Types.{Ty, Int, Pointer, Array, Struct, Void}
use Rattle.c_layout.specs.StructViews.{FieldView, StructView, struct_at}
use Rattle.c_layout.specs.Layout.{size_of_type}
use Rattle.c_layout.specs.Leaves.{repeats, leaves_of}
use Rattle.c_layout.specs.declared.shapes.ZeroPart.{ZeroPart}
use Rattle.c_layout.specs.declared.shapes.Shape.{Shape}
use Rattle.lower_objects.specs.Shapes.HeapBases.{is_character}

-- whether an array is one unit: it is folded, or one of characters
abbrev pub is_unit : Ty → ℕ → Bool
is_unit t n = cond (nat_lt 64 n) true (is_character t)

-- what stands behind the other arrays on the outside, and how often
abbrev pub unit_of : Ty → Ty
unit_of (Array t n) = cond (is_unit t n) (Array t n) (unit_of t)
unit_of (Int k) = Int k
unit_of (Pointer t) = Pointer t
unit_of (Struct i) = Struct i
unit_of Void = Void

abbrev pub unit_count : Ty → ℕ
unit_count (Array t n) = cond (is_unit t n) 1 (n * unit_count t)
unit_count (Int k) = 1
unit_count (Pointer t) = 1
unit_count (Struct i) = 1
unit_count Void = 1

abbrev pub of_fields : List FieldView → ℕ → (Ty → ℕ → List ZeroPart) → List ZeroPart
of_fields [] at field = []
of_fields (f ∷ fs) at field = field f.ctype (at + f.offset) ++ of_fields fs at field

abbrev pub zero_part : ℕ → ℕ → ZeroPart
zero_part at size = record { offset = at; size = Some size }

-- the zeros of a unit, where `member` gives those of a member
abbrev pub unit_zeros : List StructView → (Ty → ℕ → List ZeroPart) → Ty → ℕ → List ZeroPart
unit_zeros structs member (Array t n) at = cond (is_character t) (zero_part at n ∷ []) []
unit_zeros structs member (Struct i) at = of_fields (struct_at structs i).fields at member
unit_zeros structs member (Int k) at = []
unit_zeros structs member (Pointer t) at = []
unit_zeros structs member Void at = []

-- the zeros of a type, through structs that nest at most so deep
abbrev pub zeros_within : ℕ → List StructView → ℕ → Ty → ℕ → List ZeroPart
zeros_within zero structs pointer t at = []
zeros_within (suc depth) structs pointer t at =
    repeats (unit_count t) at (size_of_type structs pointer (unit_of t)) (unit_zeros structs (zeros_within depth structs pointer) (unit_of t))

-- the zeros of a complete type: structs nest at most as deep as there are structs
unfoldable pub zeros_of : List StructView → ℕ → Ty → List ZeroPart
zeros_of structs pointer t = zeros_within (length structs + 1) structs pointer t 0

-- the shape of an object
abbrev pub object_shape : List StructView → ℕ → Ty → Shape
object_shape structs pointer t = record { cells = leaves_of structs pointer t; zeros = zeros_of structs pointer t; heap = false }

-- The leaves of a type: its scalars with their offsets. A long array is folded: the leaves of its element stand once.
use Rattle.std.specs.Prelude.{ℕ, Bool, false, ◌+◌, ◌*◌, ◌==◌, nat_le, List, [], ◌∷◌, ◌++◌, if◌then◌else◌, length, zero, suc}
use Rattle.cc_base.specs.declared.int_types.IntType.{IntType}
use Rattle.c_layout.specs.declared.leaf_lists.Class.{Class}
use Rattle.c_layout.specs.declared.leaf_lists.Class.TheVariants as class
use Rattle.c_layout.specs.declared.leaf_lists.Leaf.{Leaf}
use Rattle.c_layout.specs.declared.leaf_lists.Places.{Places}
use Rattle.c_layout.specs.Types.{Ty, Int, Pointer, Array, Struct, Void}
use Rattle.c_layout.specs.StructViews.{FieldView, StructView, struct_at}
use Rattle.c_layout.specs.Layout.{size_of_type}

-- the class of an integer type, by its conversion rank
abbrev pub class_of : IntType → Class
class_of k =
    if k.rank == 1 then class.Char
    else (if k.rank == 2 then class.Short
    else (if k.rank == 3 then class.Int
    else (if k.rank == 4 then class.Long else class.LongLong)))

-- an array of more than 64 elements is folded
abbrev pub is_short : ℕ → Bool
is_short n = nat_le n 64

-- the short arrays on the outside: how many elements they have together, and what their element is
abbrev pub short_count : Ty → ℕ
short_count (Array t n) = if is_short n then n * short_count t else 1
short_count _ = 1

abbrev pub behind_short : Ty → Ty
behind_short (Array t n) = if is_short n then behind_short t else Array t n
behind_short t = t

-- the long arrays on the outside, which are one array
abbrev pub long_count : Ty → ℕ
long_count (Array t n) = if is_short n then 1 else n * long_count t
long_count _ = 1

abbrev pub behind_long : Ty → Ty
behind_long (Array t n) = if is_short n then Array t n else behind_long t
behind_long t = t

-- all arrays on the outside
abbrev pub full_count : Ty → ℕ
full_count (Array t n) = n * full_count t
full_count _ = 1

abbrev pub behind_all : Ty → Ty
behind_all (Array t n) = behind_all t
behind_all t = t

module _ {X : Type 0} where
  -- the lists of so many elements, one after the other
  abbrev pub repeats : ℕ → ℕ → ℕ → (ℕ → List X) → List X
  repeats zero at step element = []
  repeats (suc n) at step element = element at ++ repeats n (at + step) step element

abbrev pub repeated : ℕ → ℕ → ℕ → (ℕ → List Leaf) → List Leaf
repeated n at step element = repeats n at step element

-- the leaves of members
abbrev pub of_fields : List FieldView → ℕ → (Ty → ℕ → List Leaf) → List Leaf
of_fields [] at field = []
of_fields (f ∷ fs) at field = field f.ctype (at + f.offset) ++ of_fields fs at field

abbrev pub leaf : ℕ → Class → Bool → Places → Leaf
leaf at class signed places = record { offset = at; class = class; signed = signed; stride = places.stride; count = places.count }

-- the leaves of a type that is no array, each at the same places, where `member` gives those of a member
abbrev pub plain_unit : List StructView → Places → (Ty → ℕ → List Leaf) → Ty → ℕ → List Leaf
plain_unit structs places member (Int k) at = leaf at (class_of k) k.signed places ∷ []
plain_unit structs places member (Pointer t) at = leaf at class.Pointer false places ∷ []
plain_unit structs places member (Struct i) at = of_fields (struct_at structs i).fields at member
plain_unit structs places member _ at = []

-- the leaves of a type with no array folded, through structs that nest at most so deep
abbrev pub plain_leaves : ℕ → List StructView → ℕ → Places → Ty → ℕ → List Leaf
plain_leaves zero structs pointer places t at = []
plain_leaves (suc depth) structs pointer places t at =
    repeated (full_count t) at (size_of_type structs pointer (behind_all t)) (plain_unit structs places (plain_leaves depth structs pointer places) (behind_all t))

abbrev pub alone : ℕ → Places
alone size = record { stride = size; count = 1 }

-- the leaves of a type that is no short array; a long array has those of its element once, at the places of all elements
abbrev pub folded_unit : ℕ → List StructView → ℕ → (Ty → ℕ → List Leaf) → Ty → ℕ → List Leaf
folded_unit depth structs pointer member (Array t n) at =
    let element = behind_long t in
    plain_leaves depth structs pointer (record { stride = size_of_type structs pointer element; count = n * long_count t }) element at
folded_unit depth structs pointer member (Int k) at = leaf at (class_of k) k.signed (alone k.bytes) ∷ []
folded_unit depth structs pointer member (Pointer t) at = leaf at class.Pointer false (alone pointer) ∷ []
folded_unit depth structs pointer member (Struct i) at = of_fields (struct_at structs i).fields at member
folded_unit depth structs pointer member Void at = []

-- the leaves of a type, through structs that nest at most so deep
abbrev pub folded_leaves : ℕ → List StructView → ℕ → Ty → ℕ → List Leaf
folded_leaves zero structs pointer t at = []
folded_leaves (suc depth) structs pointer t at =
    repeated (short_count t) at (size_of_type structs pointer (behind_short t)) (folded_unit (suc depth) structs pointer (folded_leaves depth structs pointer) (behind_short t))

-- the leaves of a complete type: structs nest at most as deep as there are structs
unfoldable pub leaves_of : List StructView → ℕ → Ty → List Leaf
leaves_of structs pointer t = folded_leaves (length structs + 1) structs pointer t 0

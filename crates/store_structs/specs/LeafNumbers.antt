-- The leaves of a type by their number, without the list.
use Rattle.std.specs.Prelude.{ℕ, zero, suc, ◌+◌, ◌-◌, ◌*◌, ◌/◌, ◌%◌, Bool, true, false, cond, ◌==◌, nat_lt, Option, Some, None, List, [], ◌∷◌, length, slice_get}
use Rattle.c_layout.specs.declared.leaf_lists.Class.{Class}
use Rattle.c_layout.specs.declared.leaf_lists.Class.TheVariants as class
use Rattle.c_layout.specs.declared.leaf_lists.Leaf.{Leaf}
use Rattle.c_layout.specs.Types.{Ty, Int, Pointer, Array, Struct, Void, view}
use Rattle.c_layout.specs.StructViews.{FieldView, StructView, struct_at}
use Rattle.c_layout.specs.Leaves.{class_of, is_short, behind_long}
use Rattle.store_cells.specs.RowPositions.{capped}
use Rattle.store_structs.specs.declared.leaf_numbers.Places.{Places}
use Rattle.store_structs.specs.declared.leaf_numbers.Element as code
use Rattle.store_structs.specs.LeafCounts.{bytes_in, plain_count, long_count, folded_count}

abbrev pub leaf_at : ℕ → Class → Bool → Places → Leaf
leaf_at at class signed places = record { offset = at; class = class; signed = signed; stride = places.stride; count = places.count }

abbrev pub alone : ℕ → Places
alone size = record { stride = size; count = 1 }

-- the given places, or one of a size
abbrev pub places_or : ℕ → Option Places → Places
places_or size None = alone size
places_or size (Some p) = p

-- the one leaf of a scalar type
abbrev pub scalar_leaf : ℕ → Ty → ℕ → Option Places → Option Leaf
scalar_leaf pointer (Int k) at places = Some (leaf_at at (class_of k) k.signed (places_or k.bytes places))
scalar_leaf pointer (Pointer t) at places = Some (leaf_at at class.Pointer false (places_or pointer places))
scalar_leaf pointer (Array t n) at places = None
scalar_leaf pointer (Struct i) at places = None
scalar_leaf pointer Void at places = None

-- ---- members and elements

abbrev pub count_of : List StructView → Bool → Ty → ℕ
count_of structs folded t = cond folded (folded_count structs t) (plain_count structs t)

-- the member that holds the leaf with a number, and the leaf's number there
abbrev pub member_with : List StructView → Bool → List FieldView → ℕ → ℕ → Option (ℕ × ℕ)
member_with structs folded [] at left = None
member_with structs folded (f ∷ fs) at left = cond (nat_lt left (count_of structs folded f.ctype)) (Some (at, left))
    (member_with structs folded fs (at + 1) (left - count_of structs folded f.ctype))

-- the element that holds it, of so many with so many leaves each
abbrev pub element_of : ℕ → ℕ → ℕ → Option (ℕ × ℕ)
element_of number count leaves = cond (nat_lt (number / leaves) count) (Some (number / leaves, number % leaves)) None

abbrev pub element_with : ℕ → ℕ → ℕ → Option (ℕ × ℕ)
element_with number count leaves = cond (leaves == 0) None (element_of number count leaves)

-- an element: its type, the number of a leaf in it, and its offset
pub record Element : Type 0 where
  pub t : Ty
  pub number : ℕ
  pub at : ℕ

abbrev pub element_view : code.Element → Element
element_view e = record { t = view e.t.now; number = e.number; at = e.at }

abbrev pub element : Ty → ℕ → ℕ → Element
element t number at = record { t = t; number = number; at = at }

-- what is behind the element with an index, at its offset
abbrev pub behind : (ℕ → ℕ → Option Element) → ℕ → ℕ → Option (ℕ × ℕ) → Option Element
behind inner at size None = None
behind inner at size (Some p) = inner p.1 (capped (at + capped (p.0 * size)))

-- the element behind all arrays
abbrev pub behind_arrays : List StructView → ℕ → Ty → ℕ → ℕ → Option Element
behind_arrays structs pointer (Array t n) number at = behind (behind_arrays structs pointer t) at (bytes_in structs pointer t) (element_with number n (plain_count structs t))
behind_arrays structs pointer (Int k) number at = Some (element (Int k) number at)
behind_arrays structs pointer (Pointer t) number at = Some (element (Pointer t) number at)
behind_arrays structs pointer (Struct i) number at = Some (element (Struct i) number at)
behind_arrays structs pointer Void number at = Some (element Void number at)

-- the element behind the short arrays
abbrev pub behind_short : List StructView → ℕ → Ty → ℕ → ℕ → Option Element
behind_short structs pointer (Array t n) number at = cond (is_short n)
    (behind (behind_short structs pointer t) at (bytes_in structs pointer t) (element_with number n (folded_count structs t))) (Some (element (Array t n) number at))
behind_short structs pointer (Int k) number at = Some (element (Int k) number at)
behind_short structs pointer (Pointer t) number at = Some (element (Pointer t) number at)
behind_short structs pointer (Struct i) number at = Some (element (Struct i) number at)
behind_short structs pointer Void number at = Some (element Void number at)

-- ---- leaves

-- the leaf of an element, where `leaf` gives that of a type with a number at an offset
abbrev pub at_element : (Ty → ℕ → ℕ → Option Leaf) → Option Element → Option Leaf
at_element leaf None = None
at_element leaf (Some e) = leaf e.t e.number e.at

-- a member with the number of a leaf in it
abbrev pub field_at : List FieldView → ℕ × ℕ → ℕ → Option FieldView → Option Element
field_at fields p at None = None
field_at fields p at (Some f) = Some (element f.ctype p.1 (capped (at + f.offset)))

abbrev pub found_at : List FieldView → ℕ → Option (ℕ × ℕ) → Option Element
found_at fields at None = None
found_at fields at (Some p) = field_at fields p at (slice_get fields p.0)

-- the member of a struct that holds the leaf with a number
unfoldable pub member_at : List StructView → Bool → ℕ → ℕ → ℕ → Option Element
member_at structs folded i number at = found_at (struct_at structs i).fields at (member_with structs folded (struct_at structs i).fields 0 number)

abbrev pub plain_unit : (ℕ → ℕ → ℕ → Option Leaf) → ℕ → Places → Ty → ℕ → ℕ → Option Leaf
plain_unit member pointer places (Int k) number at = scalar_leaf pointer (Int k) at (Some places)
plain_unit member pointer places (Pointer t) number at = scalar_leaf pointer (Pointer t) at (Some places)
plain_unit member pointer places (Array t n) number at = None
plain_unit member pointer places (Struct i) number at = member i number at
plain_unit member pointer places Void number at = None

abbrev pub plain_leaf_by : (ℕ → ℕ → ℕ → Option Leaf) → List StructView → ℕ → Places → Ty → ℕ → ℕ → Option Leaf
plain_leaf_by member structs pointer places t number at = at_element (plain_unit member pointer places) (behind_arrays structs pointer t number at)

-- the leaf with a number of a struct where no array is folded, through structs that nest at most so deep
abbrev pub plain_member : ℕ → List StructView → ℕ → Places → ℕ → ℕ → ℕ → Option Leaf
plain_member zero structs pointer places i number at = None
plain_member (suc depth) structs pointer places i number at = at_element (plain_leaf_by (plain_member depth structs pointer places) structs pointer places) (member_at structs false i number at)

unfoldable pub plain_leaf : ℕ → List StructView → ℕ → Places → Ty → ℕ → ℕ → Option Leaf
plain_leaf depth structs pointer places t number at = plain_leaf_by (plain_member depth structs pointer places) structs pointer places t number at

-- the leaf with a number of a long array: it stands at the places of all elements
unfoldable pub long_leaf : ℕ → List StructView → ℕ → Ty → ℕ → ℕ → ℕ → Option Leaf
long_leaf depth structs pointer t n number at = plain_leaf depth structs pointer (record { stride = bytes_in structs pointer (behind_long t); count = capped (n * long_count t) }) (behind_long t) number at

abbrev pub folded_unit : ℕ → (ℕ → ℕ → ℕ → Option Leaf) → List StructView → ℕ → Ty → ℕ → ℕ → Option Leaf
folded_unit depth member structs pointer (Int k) number at = scalar_leaf pointer (Int k) at None
folded_unit depth member structs pointer (Pointer t) number at = scalar_leaf pointer (Pointer t) at None
folded_unit depth member structs pointer (Array t n) number at = long_leaf depth structs pointer t n number at
folded_unit depth member structs pointer (Struct i) number at = member i number at
folded_unit depth member structs pointer Void number at = None

abbrev pub folded_leaf_by : ℕ → (ℕ → ℕ → ℕ → Option Leaf) → List StructView → ℕ → Ty → ℕ → ℕ → Option Leaf
folded_leaf_by depth member structs pointer t number at = at_element (folded_unit depth member structs pointer) (behind_short structs pointer t number at)

-- the same with long arrays folded
abbrev pub folded_member : ℕ → List StructView → ℕ → ℕ → ℕ → ℕ → Option Leaf
folded_member zero structs pointer i number at = None
folded_member (suc depth) structs pointer i number at = at_element (folded_leaf_by depth (folded_member depth structs pointer) structs pointer) (member_at structs true i number at)

unfoldable pub folded_leaf : ℕ → List StructView → ℕ → Ty → ℕ → ℕ → Option Leaf
folded_leaf depth structs pointer t number at = folded_leaf_by depth (folded_member depth structs pointer) structs pointer t number at

-- the leaf with a number of a struct; structs nest at most as deep as there are structs
unfoldable pub struct_leaf : List StructView → ℕ → ℕ → ℕ → Option Leaf
struct_leaf structs pointer i number = folded_member (length structs) structs pointer i number 0

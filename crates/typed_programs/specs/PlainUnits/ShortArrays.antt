-- Types of objects that are no array of more than 64 elements, and hold none.
use Rattle.std.specs.Prelude.{ℕ, zero, suc, ◌+◌, Bool, true, false, ◌&&◌, List, [], ◌∷◌, length}
use Rattle.std.specs.List.{list_all}
use Rattle.c_layout.specs.Types.{Ty, Array, Struct}
use Rattle.c_layout.specs.StructViews.{FieldView, StructView, struct_at}
use Rattle.c_layout.specs.Leaves.{is_short, behind_all}
use Rattle.c_layout.specs.CheckedUnits.{UnitView, LocalView, StaticView, LiteralView}

-- each of the arrays on the outside has at most 64 elements
abbrev pub are_short : Ty → Bool
are_short (Array t n) = is_short n && are_short t
are_short other = true

-- the members of a struct have short arrays alone
abbrev pub have_short_arrays : (Ty → Bool) → List FieldView → Bool
have_short_arrays member [] = true
have_short_arrays member (f ∷ fs) = member f.ctype && have_short_arrays member fs

abbrev pub has_short_members : (Ty → Bool) → List StructView → Ty → Bool
has_short_members member structs (Struct i) = have_short_arrays member (struct_at structs i).fields
has_short_members member structs other = true

-- through structs that nest at most so deep
abbrev pub has_short_arrays_within : ℕ → List StructView → Ty → Bool
has_short_arrays_within zero structs t = false
has_short_arrays_within (suc depth) structs t = are_short t && has_short_members (has_short_arrays_within depth structs) structs (behind_all t)

-- structs nest at most as deep as there are structs
abbrev pub has_short_arrays : List StructView → Ty → Bool
has_short_arrays structs t = has_short_arrays_within (length structs + 1) structs t

abbrev pub is_short_local : List StructView → LocalView → Bool
is_short_local structs l = has_short_arrays structs l.ctype

abbrev pub is_short_object : List StructView → StaticView → Bool
is_short_object structs o = has_short_arrays structs o.ctype

-- a literal has a closing zero
abbrev pub is_short_literal : LiteralView → Bool
is_short_literal l = is_short (length l.bytes + 1)

-- the objects of static storage and the literals of a unit
abbrev pub has_short_objects : UnitView → Bool
has_short_objects u = list_all (is_short_object u.structs) u.objects && list_all is_short_literal u.literals

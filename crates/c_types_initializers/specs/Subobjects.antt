-- The subobjects of an aggregate in order (6.7.9p17).
use Rattle.std.specs.Prelude.{ℕ, pos, ◌+◌, ◌*◌, ◌==◌, ◌&&◌, not, Bool, cond, nat_le, List, [], ◌∷◌, map, reverse, slice_get, Option, Some, None, option_map}
use Rattle.std.specs.Int.{w64, saturate_unsigned}
use Rattle.c_layout.specs.Types.{Ty, view, Array, Struct}
use Rattle.c_layout.specs.StructViews.{FieldView, StructView}
use Rattle.c_types_scopes.specs.Known.{Known, size_of}
use Rattle.c_types_initializers.specs.declared.subobjects.Subobject.{Subobject}
use Rattle.c_types_initializers.specs.declared.subobjects.OpenAggregate.{OpenAggregate}
use Rattle.c_types_initializers.specs.declared.subobjects.Cursor.{Cursor}

pub record SubobjectView : Type 0 where
  pub ctype : Ty
  pub offset : ℕ

abbrev pub subobject_view : Subobject → SubobjectView
subobject_view s = record { ctype = view s.ctype; offset = s.offset }

-- an aggregate, and how many of its elements or members are passed
pub record OpenView : Type 0 where
  pub ctype : Ty
  pub offset : ℕ
  pub passed : ℕ

abbrev pub open_view : OpenAggregate → OpenView
open_view a = record { ctype = view a.ctype; offset = a.offset; passed = a.passed }

-- the open aggregates, the innermost first
abbrev pub cursor_view : Cursor → List OpenView
cursor_view c = reverse (map open_view c.open.items)

-- an aggregate of which nothing is passed
abbrev pub entered : SubobjectView → OpenView
entered s = record { ctype = s.ctype; offset = s.offset; passed = 0 }

abbrev pub subobject : Ty → ℕ → SubobjectView
subobject t offset = record { ctype = t; offset = offset }

-- an array of unknown length has elements without end
abbrev pub is_behind : ℕ → ℕ → Bool
is_behind count number = not (count == 0) && nat_le count number

abbrev pub element_of_size : Ty → ℕ → ℕ → Option ℕ → Option SubobjectView
element_of_size t offset number None = None
element_of_size t offset number (Some size) = Some (subobject t (offset + size * number))

-- the element of an array with this number
abbrev pub element : Known → Ty → ℕ → ℕ → ℕ → Option SubobjectView
element k t count offset number = cond (is_behind count number) None (element_of_size t offset number (size_of k t))

abbrev pub at_offset : ℕ → FieldView → SubobjectView
at_offset offset f = subobject f.ctype (offset + f.offset)

abbrev pub member_in : ℕ → ℕ → Option StructView → Option SubobjectView
member_in offset number None = None
member_in offset number (Some s) = option_map (at_offset offset) (slice_get s.fields number)

-- the member of a struct with this number
abbrev pub member : Known → ℕ → ℕ → ℕ → Option SubobjectView
member k owner offset number = member_in offset number (slice_get k.structs owner)

abbrev pub following_of : Known → Ty → ℕ → ℕ → Option SubobjectView
following_of k (Array t count) offset number = element k t count offset number
following_of k (Struct owner) offset number = member k owner offset number
following_of k _ offset number = None

-- the subobject behind those that are passed
abbrev pub following : Known → OpenView → Option SubobjectView
following k a = following_of k a.ctype a.offset a.passed

-- the count stays at the greatest number of 64 bits
abbrev pub one_more : ℕ → ℕ
one_more n = saturate_unsigned w64 (pos (n + 1))

abbrev pub behind : OpenView → Option SubobjectView → OpenView
behind a None = a
behind a (Some s) = record a { passed = one_more a.passed }

-- an aggregate with its next subobject passed
abbrev pub advanced : Known → OpenView → OpenView
advanced k a = behind a (following k a)

-- a step in the innermost aggregate
abbrev pub step : Known → List OpenView → Option SubobjectView × List OpenView
step k [] = (None, [])
step k (a ∷ outer) = (following k a, advanced k a ∷ outer)

-- the aggregates round the innermost one
abbrev pub around : List OpenView → List OpenView
around [] = []
around (a ∷ outer) = outer

abbrev pub left_or : OpenView → List OpenView → Option SubobjectView × List OpenView → Option SubobjectView × List OpenView
left_or a [] further = (None, a ∷ [])
left_or a (b ∷ outer) further = further

abbrev pub next_or : OpenView → List OpenView → Option SubobjectView → Option SubobjectView × List OpenView → Option SubobjectView × List OpenView
next_or a outer (Some s) further = (Some s, behind a (Some s) ∷ outer)
next_or a outer None further = left_or a outer further

-- the next subobject of the innermost aggregate that has one; those inside it are left, and the outermost never is
unfoldable pub next : Known → List OpenView → Option SubobjectView × List OpenView
next k [] = (None, [])
next k (a ∷ outer) = next_or a outer (following k a) (next k outer)

-- how many subobjects of the outermost aggregate are passed
unfoldable pub passed : List OpenView → ℕ
passed [] = 0
passed (a ∷ []) = a.passed
passed (a ∷ b ∷ outer) = passed (b ∷ outer)

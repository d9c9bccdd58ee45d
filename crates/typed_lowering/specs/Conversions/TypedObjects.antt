-- Whether the pointers among the first bytes of a unit's objects point to what their types say, and whether its types are
-- those of its data model.
use Rattle.std.specs.Prelude.{ℕ, zero, suc, ◌+◌, ◌*◌, ◌-◌, ◌/◌, ◌==◌, Bool, true, false, ◌&&◌, nat_lt, nat_le, length, Option, Some, None}
use Rattle.std.specs.List.{list_all}
use Rattle.c_layout.specs.CheckedUnits.{FunctionView, LocalView, StaticStoreView, SetValue, SetText, StaticView, LiteralView, UnitView}
use Rattle.c_layout.specs.Layout.{size_of_type}
use Rattle.c_layout.specs.Types.{Ty, Int, Pointer, Array, Struct, Void, same_type}
use Rattle.c_layout.specs.declared.checked_tree.checked_units.StaticValue.{StaticValue}
use Rattle.c_layout.specs.declared.checked_tree.checked_units.StaticValue.TheVariants as static_value
use Rattle.lower_objects.specs.Counts.SharedObjects.{literal_type}
use Rattle.memory_model.specs.Effects.UnitStarts.{base_instance}
use Rattle.store_structs.specs.LaidApart.{has_class_bytes}
use Rattle.typed_programs.specs.Types.TypeBytes.{ScalarByte, scalar_byte, struct_byte}
use Rattle.typed_programs.specs.Types.TypedPrograms.{first_types}

-- ---- where a type begins

-- the first byte of a scalar of the type
abbrev pub is_first_of : Ty → Option ScalarByte → Bool
is_first_of t None = false
is_first_of t (Some b) = same_type b.ctype t && (b.at == 0)

abbrev pub is_first : Option ℕ → Bool
is_first None = false
is_first (Some k) = k == 0

-- so many elements of a size, one behind the other
abbrev pub all_begin : ℕ → ℕ → (ℕ → Bool) → ℕ → Bool
all_begin zero size begins x = true
all_begin (suc n) size begins x = begins x && all_begin n size begins (x + size)

module _ (u : UnitView) where
  -- a type begins at an offset of another one: its scalars, and its structures, do
  abbrev pub begins : Ty → Ty → ℕ → Bool
  begins outer (Int k) x = is_first_of (Int k) (scalar_byte u.structs u.model.pointer outer x)
  begins outer (Pointer t) x = is_first_of (Pointer t) (scalar_byte u.structs u.model.pointer outer x)
  begins outer (Array t n) x = nat_lt 0 n && all_begin n (size_of_type u.structs u.model.pointer t) (begins outer t) x
  begins outer (Struct i) x = is_first (struct_byte u.structs u.model.pointer i outer x)
  begins outer Void x = false

  -- ---- the first bytes of objects

  -- so many elements of the type are the bytes within the bounds, and the offset is that of one of them or of the end
  abbrev pub is_element_of : Ty → Ty → (offset lo hi count index : ℕ) → Bool
  is_element_of outer t offset lo hi count index = ((hi == lo + count * size_of_type u.structs u.model.pointer t) && (offset == lo + index * size_of_type u.structs u.model.pointer t)) && (nat_le index count && all_begin count (size_of_type u.structs u.model.pointer t) (begins outer t) lo)

  -- a pointer to the type, with bounds: as many elements as there is room for
  abbrev pub points_within : Ty → (offset lo hi : ℕ) → Ty → Bool
  points_within outer offset lo hi t = is_element_of outer t offset lo hi ((hi - lo) / size_of_type u.structs u.model.pointer t) ((offset - lo) / size_of_type u.structs u.model.pointer t)

  abbrev pub points_in : Option Ty → (offset lo hi : ℕ) → Ty → Bool
  points_in None offset lo hi t = false
  points_in (Some outer) offset lo hi t = points_within outer offset lo hi t

  -- what a pointer that begins in the object points to; elsewhere it is no pointer
  abbrev pub points_as : Ty → ℕ → (Ty → Bool) → Bool
  points_as (Pointer t) zero points = points t
  points_as s at points = true

  abbrev pub points_if : Option ScalarByte → (Ty → Bool) → Bool
  points_if None points = true
  points_if (Some b) points = points_as b.ctype b.at points

  abbrev pub is_typed_value : Ty → ℕ → StaticValue → Bool
  is_typed_value outer at (static_value.Number n kind) = true
  is_typed_value outer at static_value.Null = true
  is_typed_value outer at (static_value.Address b offset lo hi) = points_if (scalar_byte u.structs u.model.pointer outer at) (points_in (first_types u (base_instance u b)) offset lo hi)

  abbrev pub is_typed_first_store : Ty → StaticStoreView → Bool
  is_typed_first_store outer (SetValue at value) = is_typed_value outer at value
  is_typed_first_store outer (SetText at room text) = true

  abbrev pub is_typed_object : StaticView → Bool
  is_typed_object o = list_all (is_typed_first_store o.ctype) o.stores

  -- ---- kinds of the data model

  abbrev pub has_own_kinds : Ty → Bool
  has_own_kinds t = has_class_bytes u.model t

  abbrev pub is_own_local : LocalView → Bool
  is_own_local l = has_own_kinds l.ctype

  abbrev pub is_own_function : FunctionView → Bool
  is_own_function f = has_own_kinds f.returns && list_all is_own_local f.locals

  abbrev pub is_own_object : StaticView → Bool
  is_own_object o = has_own_kinds o.ctype

  abbrev pub is_own_literal : LiteralView → Bool
  is_own_literal l = has_own_kinds (literal_type u.model.char_signed (length l.bytes))

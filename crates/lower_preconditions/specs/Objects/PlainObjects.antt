-- Whether the objects of static storage of a unit are plain: few enough to have numbers, of the integer types of the data
-- model, in arrays that have lengths, over structs that have bytes, with initial values of their types.
use Rattle.std.specs.Prelude.{ℕ, ◌^◌, Bool, true, not, ◌&&◌, ◌||◌, nat_lt, length}
use Rattle.std.specs.List.{list_all}
use Rattle.cc_base.specs.IntegerTypes.{in_type}
use Rattle.c_layout.specs.declared.data_model.Model.{Model}
use Rattle.c_layout.specs.declared.checked_tree.checked_units.StaticValue.{StaticValue}
use Rattle.c_layout.specs.declared.checked_tree.checked_units.StaticValue.TheVariants.{Number, Null, Address}
use Rattle.c_layout.specs.CheckedUnits.{StaticStoreView, SetValue, SetText, StaticView, UnitView}
use Rattle.c_layout.specs.StructViews.{FieldView, StructView}
use Rattle.c_layout.specs.Types.{Ty, Int, Pointer, Array, Struct, Void}
use Rattle.cfg.specs.ModelKinds.{is_int_type}

-- an integer type, also behind arrays, is one of the model's
abbrev pub has_model_kind : Model → Ty → Bool
has_model_kind m (Int k) = is_int_type m k
has_model_kind m (Pointer t) = true
has_model_kind m (Array t n) = has_model_kind m t
has_model_kind m (Struct i) = true
has_model_kind m Void = true

-- an array has a length, and so have its elements
abbrev pub has_length : Ty → Bool
has_length (Int k) = true
has_length (Pointer t) = true
has_length (Array t n) = nat_lt 0 n && has_length t
has_length (Struct i) = true
has_length Void = true

-- a complete struct has bytes, and the arrays in it have lengths
abbrev pub is_plain_struct : StructView → Bool
is_plain_struct s = (not s.complete || nat_lt 0 s.size) && list_all (λ f. has_length f.ctype) s.fields

-- a number is one of its type, and that is the model's
abbrev pub is_plain_value : Model → StaticValue → Bool
is_plain_value m (Number n kind) = is_int_type m kind && in_type kind n
is_plain_value m Null = true
is_plain_value m (Address object offset lo hi) = true

-- a text has room
abbrev pub is_plain_store : Model → StaticStoreView → Bool
is_plain_store m (SetValue offset v) = is_plain_value m v
is_plain_store m (SetText offset room text) = nat_lt 0 room

abbrev pub is_plain_object : Model → StaticView → Bool
is_plain_object m o = has_model_kind m o.ctype && list_all (is_plain_store m) o.stores

abbrev pub has_plain_objects : UnitView → Bool
has_plain_objects u = nat_lt (length u.objects) (2 ^ 32) && (list_all is_plain_struct u.structs && list_all (is_plain_object u.model) u.objects)

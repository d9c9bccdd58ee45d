-- How objects of static storage and literals start: each has its number, stores meet leaves of their class,
-- and addresses lie within what they name.
use Rattle.std.specs.Prelude.{ℕ, ◌+◌, Bool, true, false, cond, not, ◌&&◌, ◌||◌, ◌==◌, nat_le, List, [], ◌∷◌, length, Option, Some, None, slice_get}
use Rattle.std.specs.List.{list_all}
use Rattle.c_layout.specs.Leaves.{class_of}
use Rattle.c_layout.specs.declared.data_model.Model.{Model}
use Rattle.c_layout.specs.declared.leaf_lists.Class.{Class}
use Rattle.c_layout.specs.declared.leaf_lists.Class.TheVariants as class
use Rattle.c_layout.specs.declared.shapes.BaseInfo.{BaseInfo}
use Rattle.c_layout.specs.declared.checked_tree.checked_units.StaticBase.{StaticBase}
use Rattle.c_layout.specs.declared.checked_tree.checked_units.StaticBase.TheVariants.{Object, Literal}
use Rattle.c_layout.specs.declared.checked_tree.checked_units.StaticValue.{StaticValue}
use Rattle.c_layout.specs.declared.checked_tree.checked_units.StaticValue.TheVariants.{Number, Null, Address}
use Rattle.c_layout.specs.declared.checked_tree.checked_units.StaticStore.{StaticStore}
use Rattle.c_layout.specs.declared.checked_tree.checked_units.StaticStore.TheVariants as store
use Rattle.cfg.specs.declared.programs.InitialObject.{InitialObject}
use Rattle.cfg.specs.declared.programs.InitialValue.{InitialValue}
use Rattle.cfg.specs.declared.programs.InitialValue.TheVariants as initial
use Rattle.cfg.specs.ModelKinds.{is_int_type}
use Rattle.cfg.specs.BaseShapes.{has_room, has_place}

-- ---- numbers

abbrev pub is_object : StaticBase → Bool
is_object (Object n) = true
is_object (Literal n) = false

abbrev pub same_static : StaticBase → StaticBase → Bool
same_static (Object m) (Object n) = m == n
same_static (Object m) (Literal n) = false
same_static (Literal m) (Object n) = false
same_static (Literal m) (Literal n) = m == n

abbrev pub own_number : StaticBase → ℕ
own_number (Object n) = n
own_number (Literal n) = n

-- all objects and then all literals, each by its number, behind so many
abbrev pub are_numbered : ℕ → ℕ → List InitialObject → Bool
are_numbered objects literals [] = true
are_numbered objects literals (o ∷ os) =
    cond (is_object o.object)
    (((own_number o.object == objects) && (literals == 0)) && are_numbered (objects + 1) literals os)
    ((own_number o.object == literals) && are_numbered objects (literals + 1) os)

abbrev pub object_count : List InitialObject → ℕ
object_count [] = 0
object_count (o ∷ os) = cond (is_object o.object) (object_count os + 1) (object_count os)

-- where an object or a literal stands behind so many objects
abbrev pub number_of : ℕ → StaticBase → ℕ
number_of objects (Object n) = n
number_of objects (Literal n) = objects + n

-- ---- values

abbrev pub has_base : Option ℕ → Bool
has_base None = false
has_base (Some b) = true

-- bounds within the object, the offset within the bounds; what an object with a base points into has one
abbrev pub fits_target : Bool → StaticBase → ℕ → ℕ → ℕ → Option InitialObject → Bool
fits_target based object at lo hi None = false
fits_target based object at lo hi (Some o) =
    (same_static object o.object && (has_base o.base || not based)) && (nat_le lo at && (nat_le at hi && nat_le hi o.size))

abbrev pub fits_value : Model → List InitialObject → ℕ → Bool → StaticValue → Bool
fits_value m all objects based (Number n kind) = is_int_type m kind
fits_value m all objects based Null = true
fits_value m all objects based (Address object at lo hi) = fits_target based object at lo hi (slice_get all (number_of objects object))

abbrev pub value_class : StaticValue → Class
value_class (Number n kind) = class_of kind
value_class Null = class.Pointer
value_class (Address object at lo hi) = class.Pointer

-- ---- stores

abbrev pub has_place_in : List BaseInfo → Option ℕ → Class → ℕ → Bool
has_place_in bases None c at = true
has_place_in bases (Some b) c at = has_place c at (slice_get bases b)

abbrev pub has_room_in : List BaseInfo → Option ℕ → ℕ → ℕ → Bool
has_room_in bases None at room = true
has_room_in bases (Some b) at room = has_room at room (slice_get bases b)

abbrev pub fits_store : Model → List BaseInfo → List InitialObject → ℕ → Option ℕ → StaticStore → Bool
fits_store m bases all objects base (store.Value at v) = fits_value m all objects (has_base base) v && has_place_in bases base (value_class v) at
fits_store m bases all objects base (store.Spell at room text) = has_room_in bases base at room

-- what an object of a size begins with
abbrev pub fits_start : Model → List BaseInfo → List InitialObject → ℕ → Option ℕ → ℕ → InitialValue → Bool
fits_start m bases all objects base size (initial.Stores stores) = list_all (fits_store m bases all objects base) stores.items
fits_start m bases all objects base size (initial.Literal text) = (length text + 1 == size) && has_room_in bases base 0 size

-- an object is as large as its base
abbrev pub has_size : Option BaseInfo → ℕ → Bool
has_size None size = false
has_size (Some b) size = b.size == size

abbrev pub has_size_of : List BaseInfo → Option ℕ → ℕ → Bool
has_size_of bases None size = true
has_size_of bases (Some b) size = has_size (slice_get bases b) size

abbrev pub is_started : Model → List BaseInfo → List InitialObject → ℕ → InitialObject → Bool
is_started m bases all objects o = has_size_of bases o.base o.size && fits_start m bases all objects o.base o.size o.value

abbrev pub are_started : Model → List BaseInfo → List InitialObject → Bool
are_started m bases all = are_numbered 0 0 all && list_all (is_started m bases all (object_count all)) all

-- What typing says of the initializers of a unit: numbers are of their types, each value is stored over a scalar of its
-- class, each text over characters.
use Rattle.std.specs.Prelude.{◌≡◌, ◌<◌, ◌≤◌, ◌+◌, ℕ, true, Option, Some, List, [], ◌∷◌, slice_get}
use Rattle.cc_base.specs.IntegerTypes.{in_type}
use Rattle.c_layout.specs.Types.{Ty}
use Rattle.c_layout.specs.Layout.{size_of_type}
use Rattle.c_layout.specs.Leaves.{leaves_of}
use Rattle.c_layout.specs.CheckedUnits.{StaticStoreView, SetValue, SetText, StaticView, UnitView}
use Rattle.c_layout.specs.declared.leaf_lists.Class.{Class}
use Rattle.c_layout.specs.declared.leaf_lists.Class.TheVariants.{Char}
use Rattle.c_layout.specs.declared.checked_tree.checked_units.StaticValue.{StaticValue}
use Rattle.c_layout.specs.declared.checked_tree.checked_units.StaticValue.TheVariants.{Number, Null, Address}
use Rattle.transfer_system.specs.StartRows.{static_class}
use Rattle.memory_model.specs.Memory.ScalarSizes.{class_bytes}
use Rattle.memory_model.specs.Memory.Bytes.{Tag}
use Rattle.memory_model.specs.Memory.Tags.{tag_of, tag_at}

abbrev pub IsTypedValue : StaticValue → Type 0
IsTypedValue (Number n kind) = in_type kind n ≡ true
IsTypedValue Null = Unit {0}
IsTypedValue (Address object offset lo hi) = Unit {0}

module _ (u : UnitView) where
  -- the tag of a byte of an object of a type
  abbrev pub type_tag : Ty → ℕ → Option Tag
  type_tag t x = tag_at u.model (leaves_of u.structs u.model.pointer t) x

  -- a scalar of the class stands there, within the object
  pub record HasScalar (t : Ty) (class : Class) (offset : ℕ) : Type 0 where
    pub tags : (k : ℕ) → k < class_bytes u.model class → type_tag t (offset + k) ≡ tag_of class k
    pub inside : offset + class_bytes u.model class ≤ size_of_type u.structs u.model.pointer t

  -- room for at least one character, and for nothing else
  pub record HasCharacters (t : Ty) (offset room : ℕ) : Type 0 where
    pub some : 0 < room
    pub tags : (x : ℕ) → offset ≤ x → x < offset + room → type_tag t x ≡ tag_of Char 0

  abbrev pub IsTypedStore : Ty → StaticStoreView → Type 0
  IsTypedStore t (SetValue offset v) = IsTypedValue v × HasScalar t (static_class v).0 offset
  IsTypedStore t (SetText offset room text) = HasCharacters t offset room

  abbrev pub AreTypedStores : Ty → List StaticStoreView → Type 0
  AreTypedStores t [] = Unit {0}
  AreTypedStores t (s ∷ ss) = IsTypedStore t s × AreTypedStores t ss

  -- the initializers of all objects of static storage, also of those that the program does not name
  abbrev pub HasTypedInitializers : Type 0
  HasTypedInitializers = (k : ℕ) (o : StaticView) → slice_get u.objects k ≡ Some o → AreTypedStores o.ctype o.stores

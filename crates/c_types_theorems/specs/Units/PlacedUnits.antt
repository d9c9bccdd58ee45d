-- Where the initial values of a checked unit stand: each value is one of its scalar's type, and stands at that scalar.
use Rattle.std.specs.Prelude.{◌≡◌, ◌<◌, ◌⊎◌, ◌^◌, true, ℕ, ℤ, List, [], ◌∷◌, length, is_some, Option, Some, Ok, slice_get}
use Rattle.c_layout.specs.Types.{Ty, Int, Pointer, Array}
use Rattle.c_layout.specs.DeclarationTrees.{ExternalTree}
use Rattle.c_layout.specs.CheckedUnits.{StaticStoreView, SetValue, SetText, StaticView, UnitView}
use Rattle.c_layout.specs.declared.data_model.Model.{Model}
use Rattle.c_layout.specs.declared.checked_tree.checked_units.StaticValue.{StaticValue}
use Rattle.c_layout.specs.declared.checked_tree.checked_units.StaticValue.TheVariants.{Number, Null, Address}
use Rattle.c_types_rules.specs.Rules.ConstantFolding.{converted}
use Rattle.c_types_scopes.specs.Known.{Known, size_of}
use Rattle.c_types_initializers.specs.Subobjects.{SubobjectView}
use Rattle.c_types_initializers.specs.Literals.{character_room}
use Rattle.c_types.specs.Units.UnitChecks.{check}
use Rattle.c_types_theorems.specs.Stores.PlacedStores.{IsPart}

-- a number that is converted to the type, or a pointer
abbrev pub IsValueOf : Ty → StaticValue → Type 0
IsValueOf (Int kind) (Number n had) = (had ≡ kind) × (z : ℤ) × (n ≡ converted kind z)
IsValueOf (Pointer t) Null = Unit {0}
IsValueOf (Pointer t) (Address base offset low high) = Unit {0}
IsValueOf _ _ = ⊥

abbrev pub IsPlacedStore : Known → Ty → StaticStoreView → Type 0
IsPlacedStore k t (SetValue offset v) = (s : SubobjectView) × IsPart k t s × (s.offset ≡ offset) × IsValueOf s.ctype v
IsPlacedStore k t (SetText offset room text) = (s : SubobjectView) × IsPart k t s × (s.offset ≡ offset) × (character_room s.ctype ≡ Some room)

abbrev pub ArePlacedStores : Known → Ty → List StaticStoreView → Type 0
ArePlacedStores k t [] = Unit {0}
ArePlacedStores k t (s ∷ ss) = IsPlacedStore k t s × ArePlacedStores k t ss

-- an array whose elements have no bytes
pub record HasNoBytes (k : Known) (t : Ty) : Type 0 where
  pub element : Ty
  pub count : ℕ
  pub is : t ≡ Array element count
  pub none : size_of k element ≡ Some 0

-- an object that is all zero, or whose type is complete and whose stores stand at its parts
abbrev pub IsPlacedObject : Known → StaticView → Type 0
IsPlacedObject k o = (o.stores ≡ []) ⊎ ((is_some (size_of k o.ctype) ≡ true) × (ArePlacedStores k o.ctype o.stores ⊎ HasNoBytes k o.ctype))

abbrev pub known_of : UnitView → Known
known_of u = record { numbers = u.model; structs = u.structs }

-- of each unit that is checked and has no more objects than numbers for them
abbrev pub InitializersArePlaced : Type 0
InitializersArePlaced = (m : Model) (name : List ℕ) (es : List ExternalTree) (u : UnitView) → check m name es ≡ Ok u → length u.objects < 2 ^ 32
    → (n : ℕ) (o : StaticView) → slice_get u.objects n ≡ Some o → IsPlacedObject (known_of u) o

-- The leaves of a type are its scalars, where each array has few elements.
use Rattle.std.specs.Prelude.{◌≡◌, ℕ, ◌+◌, ◌<◌, true, List, Some, slice_get}
use Rattle.c_layout.specs.Leaves.{leaves_of}
use Rattle.c_layout.specs.StructViews.{StructView}
use Rattle.c_layout.specs.Types.{Ty}
use Rattle.c_layout.specs.declared.data_model.Model.{Model}
use Rattle.c_layout.specs.declared.leaf_lists.Leaf.{Leaf}
use Rattle.lower_templates.specs.Worklist.TermKinds.{scalar_of}
use Rattle.typed_programs.specs.PlainUnits.ShortArrays.{has_short_arrays}
use Rattle.memory_model.specs.Memory.ScalarSizes.{class_bytes}
use Rattle.memory_model.specs.Effects.Accesses.{class_in}
use Rattle.store_structs.specs.LaidApart.{has_class_bytes}
use Rattle.store_sound.specs.Operations.Scalars.{signed_in}
use Rattle.typed_programs.specs.Types.TypeBytes.{scalar_byte}
use Rattle.typed_programs.specs.Types.StandingTypes.{AreLaidOut}

-- a leaf of a scalar type, alone at its place
pub record IsLeafOf (scalar : Ty) (leaf : Leaf) : Type 0 where
  pub class : leaf.class ≡ class_in (scalar_of scalar)
  pub signed : leaf.signed ≡ signed_in (scalar_of scalar)
  pub alone : leaf.count ≡ 1

-- a leaf of the list stands where a byte says that a scalar begins
pub record HasLeaf (leaves : List Leaf) (scalar : Ty) (at : ℕ) : Type 0 where
  pub number : ℕ
  pub leaf : Leaf
  pub among : slice_get leaves number ≡ Some leaf
  pub is : IsLeafOf scalar leaf
  pub there : leaf.offset ≡ at

-- the scalar of a leaf, and its bytes
pub record HasScalar (m : Model) (structs : List StructView) (t : Ty) (leaf : Leaf) : Type 0 where
  pub scalar : Ty
  pub is : IsLeafOf scalar leaf
  pub bytes : (k : ℕ) → k < class_bytes m leaf.class → scalar_byte structs m.pointer t (leaf.offset + k) ≡ Some (record { ctype = scalar; at = k })

-- ---- the laws

-- each byte of a scalar is one of a leaf
abbrev pub ScalarsAreLeaves : Type 0
ScalarsAreLeaves = (m : Model) (structs : List StructView) → AreLaidOut m structs → (t : Ty) → has_class_bytes m t ≡ true → has_short_arrays structs t ≡ true
    → (x k : ℕ) (scalar : Ty) → scalar_byte structs m.pointer t x ≡ Some (record { ctype = scalar; at = k }) → (at : ℕ) × (at + k ≡ x) × HasLeaf (leaves_of structs m.pointer t) scalar at

-- each leaf is a scalar
abbrev pub LeavesAreScalars : Type 0
LeavesAreScalars = (m : Model) (structs : List StructView) → AreLaidOut m structs → (t : Ty) → has_class_bytes m t ≡ true → has_short_arrays structs t ≡ true
    → (number : ℕ) (leaf : Leaf) → slice_get (leaves_of structs m.pointer t) number ≡ Some leaf → HasScalar m structs t leaf

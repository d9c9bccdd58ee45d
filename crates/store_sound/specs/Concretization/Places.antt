-- Where the cells of a base lie in its instances, and which bytes they own. Each byte of an instance,
-- with its number in a scalar of a class, is owned by one cell of that class.
use Rattle.std.specs.Prelude.{◌≡◌, ℕ, ◌+◌, ◌*◌, ◌<◌, ◌≤◌, List, Some, slice_get}
use Rattle.c_layout.specs.declared.data_model.Model.{Model}
use Rattle.c_layout.specs.declared.leaf_lists.Class.{Class}
use Rattle.c_layout.specs.declared.leaf_lists.Leaf.{Leaf}
use Rattle.memory_model.specs.Memory.ScalarSizes.{class_bytes}

-- an offset of one of a leaf's scalars
pub record IsPlaceOf (leaf : Leaf) (offset : ℕ) : Type 0 where
  pub turn : ℕ
  pub few : turn < leaf.count
  pub there : offset ≡ leaf.offset + leaf.stride * turn

-- a leaf owns the bytes of its scalars, in order
pub record OwnedByLeaf (m : Model) (leaf : Leaf) (offset k : ℕ) : Type 0 where
  pub start : ℕ
  pub place : IsPlaceOf leaf start
  pub there : offset ≡ start + k
  pub small : k < class_bytes m leaf.class

-- a leaf of a class has a scalar at the offset
pub record IsLeafPlace (leaves : List Leaf) (class : Class) (offset : ℕ) : Type 0 where
  pub at : ℕ
  pub leaf : Leaf
  pub among : slice_get leaves at ≡ Some leaf
  pub same : leaf.class ≡ class
  pub place : IsPlaceOf leaf offset

-- a class cell owns what no leaf of its class owns
pub record OwnedByClass (m : Model) (leaves : List Leaf) (class : Class) (offset k : ℕ) : Type 0 where
  pub small : k < class_bytes m class
  pub no_leaf : (start : ℕ) → offset ≡ start + k → IsLeafPlace leaves class start → ⊥

-- the places of a class cell: each offset at which the class fits into so many bytes, but those of the
-- leaves of the class
pub record IsClassPlace (m : Model) (leaves : List Leaf) (class : Class) (size offset : ℕ) : Type 0 where
  pub fits : offset + class_bytes m class ≤ size
  pub no_leaf : IsLeafPlace leaves class offset → ⊥

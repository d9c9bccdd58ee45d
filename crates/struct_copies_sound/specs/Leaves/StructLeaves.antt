-- What leaves of structs and of bases are like where copies of structs are sound.
use Rattle.std.specs.Prelude.{◌≡◌, ℕ, ◌+◌, ◌*◌, ◌<◌, ◌≤◌, ◌^◌, Some, List, slice_get}
use Rattle.c_layout.specs.declared.data_model.Model.{Model}
use Rattle.c_layout.specs.declared.leaf_lists.Leaf.{Leaf}
use Rattle.memory_model.specs.Memory.ScalarSizes.{class_bytes}
use Rattle.store_sound.specs.Concretization.Places.{OwnedByLeaf}

-- a leaf of a base has few places, none of them more than 2^61 bytes off
pub record IsFew (leaf : Leaf) : Type 0 where
  pub count : leaf.count ≤ 2 ^ 61
  pub end : leaf.offset + leaf.count * leaf.stride ≤ 2 ^ 61

-- a leaf of some place that is no longer than its stride, within 2^30 bytes
pub record IsPlain (m : Model) (leaf : Leaf) : Type 0 where
  pub some : 0 < leaf.count
  pub fits : class_bytes m leaf.class ≤ leaf.stride
  pub few : leaf.count ≤ 2 ^ 30
  pub near : leaf.count * leaf.stride ≤ 2 ^ 30

-- leaves of a struct of a size, whose bytes lie within it, each of one leaf
pub record IsStruct (m : Model) (leaves : List Leaf) (size : ℕ) : Type 0 where
  pub small : size ≤ 2 ^ 30
  pub plain : (number : ℕ) (leaf : Leaf) → slice_get leaves number ≡ Some leaf → IsPlain m leaf
  pub inside : (number d k : ℕ) (leaf : Leaf) → slice_get leaves number ≡ Some leaf → OwnedByLeaf m leaf d k → d < size
  pub one : (a c d j k : ℕ) (x y : Leaf) → slice_get leaves a ≡ Some x → slice_get leaves c ≡ Some y → OwnedByLeaf m x d j → OwnedByLeaf m y d k → a ≡ c

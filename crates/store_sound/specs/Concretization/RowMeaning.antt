-- The states of the machine for which a row of the analysis stands.
use Rattle.std.specs.Prelude.{◌≡◌, ℕ, ◌<◌, ℤ, Bool, true, false, Option, Some, None, List, length, slice_get, take, drop}
use Rattle.cc_base.specs.Lattices.{LatticeOf}
use Rattle.cc_base.specs.IntegerDomains.{IntegersOf}
use Rattle.c_layout.specs.declared.leaf_lists.Class.{Class}
use Rattle.c_layout.specs.declared.leaf_lists.Leaf.{Leaf}
use Rattle.c_layout.specs.declared.shapes.BaseInfo.{BaseInfo}
use Rattle.c_layout.specs.declared.shapes.ZeroPart.{ZeroPart}
use Rattle.cfg.specs.declared.programs.Flow.{Flow}
use Rattle.value_domain.specs.declared.values.values.Value.{Value}
use Rattle.value_domain.specs.declared.values.row_cells.Cell.{Cell}
use Rattle.store_cells.specs.ClassNumbers.{class_at}
use Rattle.store_cells.specs.RowPositions.{leaf_position, class_position, zero_position, state_position, value_at, zero_at, state_at}
use Rattle.transfer_checks.specs.Temporaries.{temp_value}
use Rattle.memory_model.specs.Memory.Bytes.{Content, Byte}
use Rattle.memory_model.specs.Memory.Instances.{Memory, live, bytes_at, life_at}
use Rattle.memory_model.specs.Memory.Numbers.{Labelled, number_of}
use Rattle.memory_model.specs.Memory.ScalarSizes.{is_pointer}
use Rattle.memory_model.specs.Memory.Scalars.{Scalar}
use Rattle.store_sound.specs.Concretization.Matching.{Matched, Holds}
use Rattle.store_sound.specs.Concretization.Places.{IsPlaceOf, OwnedByLeaf, OwnedByClass, IsClassPlace}
use Rattle.store_sound.specs.Concretization.ValueMeaning.{Naming, InGammaScalar, InGammaContent, InGammaZero, InGammaState}
use Rattle.store_sound.specs.Concretization.SoundMemory.{IsMemoryOf, AreScalarsOf, AreEntered}

-- memory, what the temporaries have, and the instances of the objects that are entered
pub record MachineState : Type 0 where
  pub memory : Memory
  pub temps : ℕ → Option Scalar
  pub entered : ℕ → Option ℕ

abbrev pub array_of : Option ℕ → List Byte → List Byte
array_of None bytes = bytes
array_of (Some size) bytes = take size bytes

-- the bytes of an array whose first zero is followed; of a heap instance all
abbrev pub array_bytes : ZeroPart → List Byte → List Byte
array_bytes part bytes = array_of part.size (drop part.offset bytes)

-- a live instance of a base
pub record IsLiveOf (naming : Naming) (memory : Memory) (b i : ℕ) : Type 0 where
  pub named : naming i ≡ Some b
  pub alive : life_at memory i ≡ live

module _ {I : Type 0} (gamma : I → ℤ → Type 0) (flow : Flow) (naming : Naming) (memory : Memory) where
  -- a cell of a class stands for the numbers at its places, and for each byte that it owns
  pub record InGammaCell (b : ℕ) (class : Class) (signed : Bool) (Place : ℕ → ℕ → Type 0) (Owns : ℕ → ℕ → Type 0) (v : Value I) : Type 0 where
    pub whole : (i offset : ℕ) (numbers : List Labelled) → IsLiveOf naming memory b i → Place (length (bytes_at memory i)) offset → is_pointer class ≡ false → Holds flow.model memory i offset class numbers → gamma v.num (number_of signed numbers)
    pub byte : (i offset k : ℕ) (content : Content) → IsLiveOf naming memory b i → Owns offset k → Matched memory i offset class k content → InGammaContent gamma naming memory v class content

  abbrev pub InGammaLeaf : ℕ → Leaf → Value I → Type 0
  InGammaLeaf b leaf v = InGammaCell b leaf.class leaf.signed (λ size offset. IsPlaceOf leaf offset) (OwnedByLeaf flow.model leaf) v

  -- numbers of a class cell are read as signed ones
  abbrev pub InGammaClass : ℕ → BaseInfo → Class → Value I → Type 0
  InGammaClass b base class v = InGammaCell b class true (IsClassPlace flow.model base.shape.cells class) (OwnedByClass flow.model base.shape.cells class) v

module _ {I : Type 0} (l : LatticeOf I) (n : IntegersOf I) (gamma : I → ℤ → Type 0) (flow : Flow) (naming : Naming) where
  -- a row stands for a state by these names: each of its cells stands for its own
  pub record InGamma (row : List (Cell I)) (state : MachineState) : Type 0 where
    pub sane : IsMemoryOf flow.model flow.bases.items naming state.memory
    pub held : AreScalarsOf naming state.memory state.temps
    pub lives : AreEntered flow.bases.items naming state.memory state.entered
    pub leaves : (b j : ℕ) (base : BaseInfo) (leaf : Leaf) → slice_get flow.bases.items b ≡ Some base → slice_get base.shape.cells j ≡ Some leaf → InGammaLeaf gamma flow naming state.memory b leaf (value_at l n row (leaf_position base j))
    pub classes : (b c : ℕ) (base : BaseInfo) → slice_get flow.bases.items b ≡ Some base → base.shape.heap ≡ true → c < 6 → InGammaClass gamma flow naming state.memory b base (class_at c) (value_at l n row (class_position base c))
    pub zeros : (b p i : ℕ) (base : BaseInfo) (part : ZeroPart) → slice_get flow.bases.items b ≡ Some base → slice_get base.shape.zeros p ≡ Some part → IsLiveOf naming state.memory b i → InGammaZero gamma naming state.memory (zero_at l n row (zero_position base p)) (array_bytes part (bytes_at state.memory i))
    pub states : (b i : ℕ) (base : BaseInfo) → slice_get flow.bases.items b ≡ Some base → base.shape.heap ≡ true → naming i ≡ Some b → InGammaState gamma naming state.memory (state_at l n row (state_position base)) (life_at state.memory i) (length (bytes_at state.memory i))
    pub temps : (t : ℕ) (scalar : Scalar) → state.temps t ≡ Some scalar → InGammaScalar gamma naming state.memory (temp_value l n flow row t) scalar

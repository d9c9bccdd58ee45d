-- What holds of memory and of names whatever a row says. Each step of the machine is to keep it.
use Rattle.std.specs.Prelude.{◌≡◌, ◌<◌, ◌≤◌, ℕ, false, Option, Some, None, List, length, slice_get}
use Rattle.c_layout.specs.declared.data_model.Model.{Model}
use Rattle.c_layout.specs.declared.leaf_lists.Class.TheVariants.{Pointer}
use Rattle.c_layout.specs.declared.shapes.BaseInfo.{BaseInfo}
use Rattle.c_layout.specs.declared.shapes.BaseKind.{BaseKind}
use Rattle.c_layout.specs.declared.shapes.BaseKind.TheVariants.{Static, Automatic, Literal, Newest, Older}
use Rattle.store_cells.specs.AccessWindows.{last_offset}
use Rattle.memory_model.specs.Memory.ScalarSizes.{class_bytes}
use Rattle.memory_model.specs.Memory.Bytes.{MachinePointer, null, into, Content, indeterminate, number, part, Tag, Byte}
use Rattle.memory_model.specs.Memory.Instances.{Storage, static, automatic, allocated, literal, live, ended, freed, Instance, Memory, byte_at, bytes_at, life_at}
use Rattle.memory_model.specs.Memory.Tags.{tag_of, tag_at}
use Rattle.memory_model.specs.Memory.Scalars.{Scalar, integer, pointer}
use Rattle.store_sound.specs.Concretization.ValueMeaning.{Naming}

-- ---- instances and their bases

abbrev pub storage_for : BaseKind → Storage
storage_for Static = static
storage_for Automatic = automatic
storage_for Literal = literal
storage_for Newest = allocated
storage_for Older = allocated

-- an instance of a base has its storage; that of an object has its size and the tags of its leaves
pub record IsInstanceOf (model : Model) (base : BaseInfo) (instance : Instance) : Type 0 where
  pub storage : instance.storage ≡ storage_for base.kind
  pub size : base.shape.heap ≡ false → length instance.bytes ≡ base.size
  pub tags : base.shape.heap ≡ false → (offset : ℕ) (byte : Byte) → slice_get instance.bytes offset ≡ Some byte → byte.tag ≡ tag_at model base.shape.cells offset

-- what is freed was allocated
abbrev pub IsFreedRightly : Instance → Type 0
IsFreedRightly instance = instance.life ≡ freed → instance.storage ≡ allocated

-- ---- pointers

-- a pointer lies within its bounds, and these within an instance
pub record IsWithin (memory : Memory) (i offset lo hi : ℕ) : Type 0 where
  pub made : i < length memory
  pub above : lo ≤ offset
  pub below : offset ≤ hi
  pub within : hi ≤ length (bytes_at memory i)

abbrev pub IsPointerIn : Memory → MachinePointer → Type 0
IsPointerIn memory null = Unit {0}
IsPointerIn memory (into i offset lo hi) = IsWithin memory i offset lo hi

abbrev pub IsScalarIn : Memory → Scalar → Type 0
IsScalarIn memory (integer n labels) = Unit {0}
IsScalarIn memory (pointer p) = IsPointerIn memory p

-- what a pointer points to has a base or has ended
abbrev pub IsNamed : Naming → Memory → MachinePointer → Type 0
IsNamed naming memory null = Unit {0}
IsNamed naming memory (into i offset lo hi) = (life_at memory i ≡ ended → ⊥) → naming i ≡ None → ⊥

-- ---- bytes

-- the number of a byte is below 256, and a part of a pointer stands under its own tag alone, on the heap too
abbrev pub IsContentIn : Memory → Content → Option Tag → Type 0
IsContentIn memory indeterminate tag = Unit {0}
IsContentIn memory (number n labels) tag = n < 256
IsContentIn memory (part p k) tag = IsPointerIn memory p × (tag ≡ tag_of Pointer k)

abbrev pub IsContentNamed : Naming → Memory → Content → Type 0
IsContentNamed naming memory indeterminate = Unit {0}
IsContentNamed naming memory (number n labels) = Unit {0}
IsContentNamed naming memory (part p k) = IsNamed naming memory p

-- ---- memory

module _ (model : Model) (bases : List BaseInfo) (naming : Naming) (memory : Memory) where
  pub record IsMemoryOf : Type 0 where
    -- each base but the older one of an allocation names one instance that has not ended at most
    pub one : (i j b : ℕ) (base : BaseInfo) → slice_get bases b ≡ Some base → (base.kind ≡ Older → ⊥) → naming i ≡ Some b → naming j ≡ Some b → (life_at memory i ≡ ended → ⊥) → (life_at memory j ≡ ended → ⊥) → i ≡ j
    pub few : (i b : ℕ) → naming i ≡ Some b → b < length bases
    pub made : (i b : ℕ) → naming i ≡ Some b → i < length memory
    pub instances : (i b : ℕ) (base : BaseInfo) (instance : Instance) → naming i ≡ Some b → slice_get bases b ≡ Some base → slice_get memory i ≡ Some instance → IsInstanceOf model base instance
    pub freed_rightly : (i : ℕ) (instance : Instance) → slice_get memory i ≡ Some instance → IsFreedRightly instance
    pub small : (i : ℕ) → length (bytes_at memory i) ≤ last_offset
    pub bytes : (i offset : ℕ) (byte : Byte) → byte_at memory i offset ≡ Some byte → IsContentIn memory byte.content byte.tag
    -- an instance without a base is pointed to by nothing that has one
    pub named : (i b offset : ℕ) (byte : Byte) → naming i ≡ Some b → byte_at memory i offset ≡ Some byte → IsContentNamed naming memory byte.content
    -- the number of a tag is below the size of its class
    pub tags : (i offset : ℕ) (byte : Byte) (tag : Tag) → byte_at memory i offset ≡ Some byte → byte.tag ≡ Some tag → tag.at < class_bytes model tag.class

-- what the temporaries have points into memory
pub record AreScalarsOf (naming : Naming) (memory : Memory) (temps : ℕ → Option Scalar) : Type 0 where
  pub within : (t : ℕ) (scalar : Scalar) → temps t ≡ Some scalar → IsScalarIn memory scalar
  pub named : (t : ℕ) (p : MachinePointer) → temps t ≡ Some (pointer p) → IsNamed naming memory p

-- an object that is entered is live, its base names it and no other instance that has not ended, and it is no allocated one
pub record AreEntered (bases : List BaseInfo) (naming : Naming) (memory : Memory) (entered : ℕ → Option ℕ) : Type 0 where
  pub sole : (b i : ℕ) (base : BaseInfo) → slice_get bases b ≡ Some base → base.kind ≡ Automatic → naming i ≡ Some b → (life_at memory i ≡ ended → ⊥) → entered b ≡ Some i
  pub alive : (b i : ℕ) → entered b ≡ Some i → life_at memory i ≡ live
  pub named : (b i : ℕ) → entered b ≡ Some i → naming i ≡ Some b
  pub objects : (b i : ℕ) (base : BaseInfo) → slice_get bases b ≡ Some base → entered b ≡ Some i → storage_for base.kind ≡ allocated → ⊥

-- Memory and names stay sound behind a copy of a struct, whatever a row says.
use Rattle.std.specs.Prelude.{◌≡◌, ℕ, List}
use Rattle.c_layout.specs.declared.data_model.Model.{Model}
use Rattle.c_layout.specs.declared.leaf_lists.Leaf.{Leaf}
use Rattle.c_layout.specs.declared.shapes.BaseInfo.{BaseInfo}
use Rattle.memory_model.specs.Memory.Bytes.{MachinePointer}
use Rattle.memory_model.specs.Memory.Scalars.{Scalar, pointer}
use Rattle.memory_model.specs.Effects.StructCopies.{copy_struct}
use Rattle.memory_model.specs.Effects.Worlds.{World, goes}
use Rattle.store_sound.specs.Concretization.SoundMemory.{IsMemoryOf, IsPointerIn, IsNamed}
use Rattle.store_sound.specs.Concretization.ValueMeaning.{Naming}

-- a copy of a struct of any leaves and of any size, from where a pointer with a name points to
abbrev pub CopyKeeps : Model → List BaseInfo → Type 0
CopyKeeps m bases = (naming : Naming) (w u : World) (leaves : List Leaf) (size : ℕ) (to from : MachinePointer) (t : Scalar) → IsMemoryOf m bases naming w.memory → IsPointerIn w.memory to → IsPointerIn w.memory from → IsNamed naming w.memory from
    → copy_struct m leaves size (pointer to) (pointer from) w ≡ goes t u → IsMemoryOf m bases naming u.memory

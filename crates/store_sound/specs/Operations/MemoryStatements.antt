-- Memory and names stay sound behind a load and behind a store, whatever a row says.
use Rattle.std.specs.Prelude.{◌≡◌, List}
use Rattle.c_layout.specs.declared.data_model.Model.{Model}
use Rattle.c_layout.specs.declared.shapes.BaseInfo.{BaseInfo}
use Rattle.cfg.specs.declared.machine_instructions.Scalar as declared
use Rattle.memory_model.specs.Memory.Bytes.{MachinePointer}
use Rattle.memory_model.specs.Memory.Scalars.{Scalar, pointer}
use Rattle.memory_model.specs.Effects.Worlds.{World, goes}
use Rattle.memory_model.specs.Effects.Accesses.{load, store}
use Rattle.store_sound.specs.Concretization.ValueMeaning.{Naming}
use Rattle.store_sound.specs.Concretization.SoundMemory.{IsMemoryOf, IsPointerIn, IsScalarIn, IsNamed}
use Rattle.store_sound.specs.Operations.Scalars.{IsScalarNamed}

-- a load leaves memory as it is, and what it gives points into it, to what has a base or has ended
pub record LoadKeepsSound (m : Model) (bases : List BaseInfo) (naming : Naming) (w u : World) (at : MachinePointer) (kind : declared.Scalar) (v : Scalar) : Type 0 where
  pub same : u.memory ≡ w.memory
  pub within : IsScalarIn u.memory v
  pub named : IsScalarNamed naming u.memory v

abbrev pub LoadKeeps : Model → List BaseInfo → Type 0
LoadKeeps m bases = (naming : Naming) (w u : World) (at : MachinePointer) (kind : declared.Scalar) (v : Scalar) → IsMemoryOf m bases naming w.memory → IsPointerIn w.memory at → IsNamed naming w.memory at → load m kind (pointer at) w ≡ goes v u → LoadKeepsSound m bases naming w u at kind v

-- a store of any scalar, which points into memory to what has a base or has ended, leaves memory sound
abbrev pub StoreKeeps : Model → List BaseInfo → Type 0
StoreKeeps m bases = (naming : Naming) (w u : World) (at : MachinePointer) (kind : declared.Scalar) (v t : Scalar) → IsMemoryOf m bases naming w.memory → IsPointerIn w.memory at → IsScalarIn w.memory v → IsScalarNamed naming w.memory v → store m kind (pointer at) v w ≡ goes t u → IsMemoryOf m bases naming u.memory

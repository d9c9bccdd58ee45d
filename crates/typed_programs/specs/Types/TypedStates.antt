-- States of a run of a program in which pointers point to what their types say: those in temporaries, and those in memory.
use Rattle.std.specs.Prelude.{◌≡◌, ℕ, ◌<◌, false, List, Option, Some, length, slice_get}
use Rattle.c_layout.specs.StructViews.{StructView}
use Rattle.c_layout.specs.Types.{Ty, Pointer}
use Rattle.memory_model.specs.Memory.Bytes.{MachinePointer, Byte, part}
use Rattle.memory_model.specs.Memory.Instances.{Memory, bytes_at}
use Rattle.memory_model.specs.Memory.Scalars.{Scalar}
use Rattle.memory_model.specs.Effects.Touches.{is_allocated, storage_at}
use Rattle.semantics.specs.CfgMachine.FlowStates.{ProgramState}
use Rattle.typed_programs.specs.Types.TypeBytes.{scalar_byte}
use Rattle.typed_programs.specs.Types.PointedTypes.{Element, Known, Points, Has}

-- what is known of each temporary
abbrev pub Temporaries : Type 0
Temporaries = ℕ → Option Known

-- an object that has a type is declared
abbrev pub AreDeclared : (ℕ → Option Ty) → Memory → Type 0
AreDeclared types memory = (i : ℕ) (t : Ty) → types i ≡ Some t → is_allocated (storage_at memory i) ≡ false

module _ (structs : List StructView) (pointer_size : ℕ) where
  -- a pointer whose first byte lies where a pointer to a type begins points to that type
  abbrev pub IsTypedMemory : (ℕ → Option Ty) → Memory → Type 0
  IsTypedMemory types memory = (i offset : ℕ) (outer t : Ty) (b : Byte) (p : MachinePointer) → types i ≡ Some outer → slice_get (bytes_at memory i) offset ≡ Some b → b.content ≡ part p 0
      → scalar_byte structs pointer_size outer offset ≡ Some (record { ctype = Pointer t; at = 0 }) → Points structs pointer_size types (Element t) p

  abbrev pub AreKnown : (ℕ → Option Ty) → Temporaries → (ℕ → Option Scalar) → Type 0
  AreKnown types known temps = (t : ℕ) (k : Known) (v : Scalar) → known t ≡ Some k → temps t ≡ Some v → Has structs pointer_size types k v

  -- `objects` has the type of each base
  pub record IsTyped (objects : ℕ → Ty) (known : Temporaries) (s : ProgramState) : Type 0 where
    pub types : ℕ → Option Ty
    pub bases : (b i : ℕ) → s.bases b ≡ Some i → types i ≡ Some (objects b)
    pub there : (i : ℕ) (t : Ty) → types i ≡ Some t → i < length s.world.memory
    pub declared : AreDeclared types s.world.memory
    pub temps : AreKnown types known s.temps
    pub memory : IsTypedMemory types s.world.memory

-- A row that stands for the machine's state stands for it after a store of a character.
use Rattle.std.specs.Prelude.{◌≡◌, ℕ, ℤ, true, Option, List, length}
use Rattle.cc_base.specs.Lattices.{LatticeOf}
use Rattle.cc_base.specs.IntegerDomains.{IntegersOf}
use Rattle.c_layout.specs.declared.leaf_lists.Class.TheVariants.{Char}
use Rattle.cfg.specs.declared.machine_instructions.Scalar as declared
use Rattle.cfg.specs.declared.programs.Flow.{Flow}
use Rattle.pointer_domain.specs.declared.pointer_sets.Pointers.{Pointers}
use Rattle.value_domain.specs.declared.values.values.Value.{Value}
use Rattle.value_domain.specs.declared.values.row_cells.Cell.{Cell}
use Rattle.store_cells.specs.NearValues.{near_value}
use Rattle.store.specs.Stores.{store as stored}
use Rattle.memory_model.specs.Memory.ScalarSizes.{same_class}
use Rattle.memory_model.specs.Memory.Bytes.{MachinePointer}
use Rattle.memory_model.specs.Memory.Scalars.{Scalar, pointer}
use Rattle.memory_model.specs.Effects.Worlds.{World, goes}
use Rattle.memory_model.specs.Effects.Accesses.{class_in, store}
use Rattle.store_sound.specs.Concretization.ValueMeaning.{Naming, InGammaPointer, InGammaScalar}
use Rattle.store_sound.specs.Concretization.SoundMemory.{IsPointerIn}
use Rattle.store_sound.specs.Concretization.RowMeaning.{InGamma}
use Rattle.store_sound.specs.Operations.Gives.{Gives}
use Rattle.store_sound.specs.Operations.Scalars.{signed_in}
use Rattle.store_sound.specs.Operations.Shapes.{SeesPadding, IsLaidOut}
use Rattle.store_sound.specs.Operations.Statements.{state_in}

module _ {I : Type 0} (l : LatticeOf I) (n : IntegersOf I) (gamma : I → ℤ → Type 0) where
  -- a store of a character leaves a row that stands for the state behind it, where the counts of bytes see padding
  abbrev pub CharacterStoreStands : Type 0
  CharacterStoreStands = (flow : Flow) (size : ℕ) → IsLaidOut flow size → SeesPadding flow.model flow.bases.items → (naming : Naming) (row : List (Cell I)) (w u : World) (temps : ℕ → Option Scalar) (entered : ℕ → Option ℕ) → length row ≡ size → InGamma l n gamma flow naming row (state_in w temps entered)
      → (p : Pointers I) (at : MachinePointer) (kind : declared.Scalar) (x : Value I) (v t : Scalar) → same_class (class_in kind) Char ≡ true → InGammaPointer gamma naming w.memory p at → IsPointerIn w.memory at → InGammaScalar gamma naming w.memory x v → near_value l n x ≡ x → store flow.model kind (pointer at) v w ≡ goes t u
      → Gives (λ after. InGamma l n gamma flow naming after (state_in u temps entered)) (stored l n flow.model flow.bases.items p (class_in kind) (signed_in kind) x row)

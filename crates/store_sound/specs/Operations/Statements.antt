-- A row that stands for the machine's state stands for it after a load and after a store.
use Rattle.std.specs.Prelude.{◌≡◌, ℕ, ℤ, true, false, Option, List, length}
use Rattle.cc_base.specs.Lattices.{LatticeOf}
use Rattle.cc_base.specs.IntegerDomains.{IntegersOf}
use Rattle.cc_base.specs.declared.diagnostics.Rule.TheVariants as rule
use Rattle.c_layout.specs.declared.leaf_lists.Class.TheVariants.{Char}
use Rattle.cfg.specs.declared.machine_instructions.Scalar as declared
use Rattle.cfg.specs.declared.programs.Flow.{Flow}
use Rattle.pointer_domain.specs.declared.pointer_sets.Pointers.{Pointers}
use Rattle.value_domain.specs.declared.values.values.Value.{Value}
use Rattle.value_domain.specs.declared.values.row_cells.Cell.{Cell}
use Rattle.store_cells.specs.NearValues.{near_value}
use Rattle.store_objects.specs.LiveBases.{any_freed}
use Rattle.store.specs.Loads.{load as loaded}
use Rattle.store.specs.Stores.{store as stored}
use Rattle.memory_model.specs.Memory.ScalarSizes.{same_class}
use Rattle.memory_model.specs.Memory.Bytes.{MachinePointer}
use Rattle.memory_model.specs.Memory.Scalars.{Scalar, pointer}
use Rattle.memory_model.specs.Effects.Worlds.{World, goes, stopped_by}
use Rattle.memory_model.specs.Effects.Accesses.{class_in, points_into_freed, load, store}
use Rattle.store_sound.specs.Concretization.ValueMeaning.{Naming, InGammaPointer, InGammaScalar}
use Rattle.store_sound.specs.Concretization.SoundMemory.{IsPointerIn, IsScalarIn}
use Rattle.store_sound.specs.Concretization.RowMeaning.{MachineState, InGamma}
use Rattle.store_sound.specs.Operations.Gives.{Gives}
use Rattle.store_sound.specs.Operations.Scalars.{signed_in}
use Rattle.store_sound.specs.Operations.Shapes.{AreShaped, SeesPadding, IsLaidOut}

-- a scalar wider than a character
abbrev pub IsWide : declared.Scalar → Type 0
IsWide kind = same_class (class_in kind) Char ≡ false

-- the state with this memory
abbrev pub state_in : World → (ℕ → Option Scalar) → (ℕ → Option ℕ) → MachineState
state_in w temps entered = record { memory = w.memory; temps = temps; entered = entered }

module _ {I : Type 0} (l : LatticeOf I) (n : IntegersOf I) (gamma : I → ℤ → Type 0) where
  -- a load of a wider scalar gives a value that stands for it
  abbrev pub LoadStands : Type 0
  LoadStands = (flow : Flow) → AreShaped flow.bases.items → (naming : Naming) (row : List (Cell I)) (w u : World) (temps : ℕ → Option Scalar) (entered : ℕ → Option ℕ) → InGamma l n gamma flow naming row (state_in w temps entered)
      → (p : Pointers I) (at : MachinePointer) (kind : declared.Scalar) (v : Scalar) → IsWide kind → InGammaPointer gamma naming w.memory p at → IsPointerIn w.memory at → load flow.model kind (pointer at) w ≡ goes v u
      → Gives (λ x. InGammaScalar gamma naming w.memory x v) (loaded l n flow.model flow.bases.items row p (class_in kind) (signed_in kind))

  -- a load of a character too, where the counts of bytes see padding
  abbrev pub CharacterStands : Type 0
  CharacterStands = (flow : Flow) → AreShaped flow.bases.items → SeesPadding flow.model flow.bases.items → (naming : Naming) (row : List (Cell I)) (w u : World) (temps : ℕ → Option Scalar) (entered : ℕ → Option ℕ) → InGamma l n gamma flow naming row (state_in w temps entered)
      → (p : Pointers I) (at : MachinePointer) (kind : declared.Scalar) (v : Scalar) → same_class (class_in kind) Char ≡ true → InGammaPointer gamma naming w.memory p at → IsPointerIn w.memory at → load flow.model kind (pointer at) w ≡ goes v u
      → Gives (λ x. InGammaScalar gamma naming w.memory x v) (loaded l n flow.model flow.bases.items row p (class_in kind) (signed_in kind))

  -- where the machine stops at an indeterminate character, the value says so
  abbrev pub BlankCharacterStands : Type 0
  BlankCharacterStands = (flow : Flow) → AreShaped flow.bases.items → SeesPadding flow.model flow.bases.items → (naming : Naming) (row : List (Cell I)) (w : World) (temps : ℕ → Option Scalar) (entered : ℕ → Option ℕ) → InGamma l n gamma flow naming row (state_in w temps entered)
      → (p : Pointers I) (at : MachinePointer) (kind : declared.Scalar) → same_class (class_in kind) Char ≡ true → InGammaPointer gamma naming w.memory p at → IsPointerIn w.memory at → load flow.model kind (pointer at) w ≡ stopped_by w rule.Uninitref
      → Gives (λ x. x.indeterminate ≡ true) (loaded l n flow.model flow.bases.items row p (class_in kind) (signed_in kind))

  -- what is known of a pointer to a freed instance: one of its bases may be freed
  abbrev pub FreedShows : Type 0
  FreedShows = (flow : Flow) → AreShaped flow.bases.items → (naming : Naming) (row : List (Cell I)) (state : MachineState) → InGamma l n gamma flow naming row state
      → (x : Value I) (v : Scalar) → InGammaScalar gamma naming state.memory x v → points_into_freed state.memory v ≡ true → any_freed l n flow.bases.items row x.pointer.bases ≡ true

  -- where the machine stops at an indeterminate byte of a wider scalar, the value says so
  abbrev pub BlankStands : Type 0
  BlankStands = (flow : Flow) → AreShaped flow.bases.items → (naming : Naming) (row : List (Cell I)) (w : World) (temps : ℕ → Option Scalar) (entered : ℕ → Option ℕ) → InGamma l n gamma flow naming row (state_in w temps entered)
      → (p : Pointers I) (at : MachinePointer) (kind : declared.Scalar) → IsWide kind → InGammaPointer gamma naming w.memory p at → IsPointerIn w.memory at → load flow.model kind (pointer at) w ≡ stopped_by w rule.Uninitref
      → Gives (λ x. x.indeterminate ≡ true) (loaded l n flow.model flow.bases.items row p (class_in kind) (signed_in kind))

  -- a store of a wider scalar leaves a row that stands for the state behind it
  abbrev pub StoreStands : Type 0
  StoreStands = (flow : Flow) (size : ℕ) → IsLaidOut flow size → (naming : Naming) (row : List (Cell I)) (w u : World) (temps : ℕ → Option Scalar) (entered : ℕ → Option ℕ) → length row ≡ size → InGamma l n gamma flow naming row (state_in w temps entered)
      → (p : Pointers I) (at : MachinePointer) (kind : declared.Scalar) (x : Value I) (v t : Scalar) → IsWide kind → InGammaPointer gamma naming w.memory p at → IsPointerIn w.memory at → InGammaScalar gamma naming w.memory x v → IsScalarIn w.memory v → near_value l n x ≡ x → store flow.model kind (pointer at) v w ≡ goes t u
      → Gives (λ after. InGamma l n gamma flow naming after (state_in u temps entered)) (stored l n flow.model flow.bases.items p (class_in kind) (signed_in kind) x row)

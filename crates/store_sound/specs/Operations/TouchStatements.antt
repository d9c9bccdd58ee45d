-- What the machine's touch of some bytes violates is among what the analysis says that it may violate.
use Rattle.std.specs.Prelude.{◌≡◌, ◌⊎◌, ℕ, ℤ, Bool, true, false, Option, List}
use Rattle.cc_base.specs.Lattices.{LatticeOf}
use Rattle.cc_base.specs.IntegerDomains.{IntegersOf}
use Rattle.cc_base.specs.declared.diagnostics.Rule.{Rule}
use Rattle.cc_base.specs.declared.diagnostics.Rule.TheVariants.{Uninitref}
use Rattle.cfg.specs.declared.machine_instructions.Scalar as declared
use Rattle.cfg.specs.declared.programs.Flow.{Flow}
use Rattle.pointer_domain.specs.declared.pointer_sets.Pointers.{Pointers}
use Rattle.value_domain.specs.declared.values.row_cells.Cell.{Cell}
use Rattle.transfer_checks.specs.Touches.{touch}
use Rattle.transfer_checks.specs.ViolationSets.{violates}
use Rattle.memory_model.specs.Memory.ScalarSizes.{class_bytes}
use Rattle.memory_model.specs.Memory.Bytes.{MachinePointer}
use Rattle.memory_model.specs.Memory.Scalars.{Scalar, pointer}
use Rattle.memory_model.specs.Effects.Worlds.{World, goes, stopped_by}
use Rattle.memory_model.specs.Effects.Touches.{Spot, touched}
use Rattle.memory_model.specs.Effects.Accesses.{class_in, load}
use Rattle.store_sound.specs.Concretization.ValueMeaning.{Naming, InGammaPointer}
use Rattle.store_sound.specs.Concretization.SoundMemory.{IsPointerIn}
use Rattle.store_sound.specs.Concretization.RowMeaning.{InGamma}
use Rattle.store_sound.specs.Operations.Shapes.{AreShaped}
use Rattle.store_sound.specs.Operations.Statements.{state_in}

module _ {I : Type 0} (l : LatticeOf I) (n : IntegersOf I) (gamma : I → ℤ → Type 0) where
  -- the rule at which a touch stops is admitted
  abbrev pub TouchAdmits : Type 0
  TouchAdmits = (flow : Flow) → AreShaped flow.bases.items → (naming : Naming) (row : List (Cell I)) (w : World) (temps : ℕ → Option Scalar) (entered : ℕ → Option ℕ) → InGamma l n gamma flow naming row (state_in w temps entered)
      → (p : Pointers I) (at : MachinePointer) (size : ℕ) (writes : Bool) (r : Rule) → InGammaPointer gamma naming w.memory p at → IsPointerIn w.memory at → touched w at size writes ≡ stopped_by w r → violates (touch l n flow.bases.items row p 0 size writes).violations r ≡ true

  -- the rule at which a load stops is that of an indeterminate byte, or one that its touch admits
  abbrev pub LoadAdmits : Type 0
  LoadAdmits = (flow : Flow) → AreShaped flow.bases.items → (naming : Naming) (row : List (Cell I)) (w : World) (temps : ℕ → Option Scalar) (entered : ℕ → Option ℕ) → InGamma l n gamma flow naming row (state_in w temps entered)
      → (p : Pointers I) (at : MachinePointer) (kind : declared.Scalar) (r : Rule) → InGammaPointer gamma naming w.memory p at → IsPointerIn w.memory at → load flow.model kind (pointer at) w ≡ stopped_by w r
      → (violates (touch l n flow.bases.items row p 0 (class_bytes flow.model (class_in kind)) false).violations r ≡ true) ⊎ (r ≡ Uninitref)

  -- where a touch goes on, the pointers that go on stand for the machine's
  abbrev pub TouchStands : Type 0
  TouchStands = (flow : Flow) → AreShaped flow.bases.items → (naming : Naming) (row : List (Cell I)) (w u : World) (temps : ℕ → Option Scalar) (entered : ℕ → Option ℕ) → InGamma l n gamma flow naming row (state_in w temps entered)
      → (p : Pointers I) (at : MachinePointer) (size : ℕ) (writes : Bool) (spot : Spot) → InGammaPointer gamma naming w.memory p at → IsPointerIn w.memory at → touched w at size writes ≡ goes spot u → InGammaPointer gamma naming w.memory (touch l n flow.bases.items row p 0 size writes).rest at

-- The values, pointers, first zeros and states for which those of the analysis stand.
use Rattle.std.specs.Prelude.{◌≡◌, ℕ, ◌-ℤ◌, ℤ, pos, true, false, Option, Some, List, length}
use Rattle.c_layout.specs.declared.leaf_lists.Class.{Class}
use Rattle.pointer_domain.specs.BaseSets.{bases_has}
use Rattle.pointer_domain.specs.declared.pointer_sets.Pointers.{Pointers}
use Rattle.value_domain.specs.declared.strings.first_zeros.FirstZero.{FirstZero}
use Rattle.value_domain.specs.Values.LabelSets.{labels_leq}
use Rattle.value_domain.specs.declared.values.values.Value.{Value}
use Rattle.value_domain.specs.declared.values.alloc_states.AllocState.{AllocState}
use Rattle.memory_model.specs.Memory.ScalarSizes.{is_pointer}
use Rattle.memory_model.specs.Memory.Bytes.{MachinePointer, null, into, Content, indeterminate, number, part, Byte}
use Rattle.memory_model.specs.Memory.Instances.{Memory, Life, live, ended, freed, bytes_at, life_at}
use Rattle.memory_model.specs.Memory.Scalars.{Scalar, integer, pointer}
use Rattle.store_sound.specs.Concretization.SeenLabels.{as_set}
use Rattle.store_sound.specs.Concretization.FirstZeroBytes.{first_zero, zero_offset}

-- which base names an instance; none where the analysis does not speak of it
abbrev pub Naming : Type 0
Naming = ℕ → Option ℕ

module _ {I : Type 0} (gamma : I → ℤ → Type 0) (naming : Naming) (memory : Memory) where
  -- a pointer into an instance that has not ended
  pub record InGammaInto (v : Pointers I) (i offset lo hi : ℕ) : Type 0 where
    pub base : ℕ
    pub named : naming i ≡ Some base
    pub among : bases_has v.bases base ≡ true
    pub lower : gamma v.lo (pos lo)
    pub relative : gamma v.rel (pos offset -ℤ pos lo)
    pub room : gamma v.len (pos hi -ℤ pos lo)
    pub whole : v.part ≡ false → (lo ≡ 0) × (hi ≡ length (bytes_at memory i))

  -- a pointer to an object whose lifetime has ended is stood for by that alone
  abbrev pub InGammaByLife : Pointers I → Life → ℕ → ℕ → ℕ → ℕ → Type 0
  InGammaByLife v live i offset lo hi = InGammaInto v i offset lo hi
  InGammaByLife v ended i offset lo hi = v.ended ≡ true
  InGammaByLife v freed i offset lo hi = InGammaInto v i offset lo hi

  abbrev pub InGammaPointer : Pointers I → MachinePointer → Type 0
  InGammaPointer v null = v.null ≡ true
  InGammaPointer v (into i offset lo hi) = InGammaByLife v (life_at memory i) i offset lo hi

  abbrev pub InGammaScalar : Value I → Scalar → Type 0
  InGammaScalar v (integer n labels) = gamma v.num n × (labels_leq (as_set labels) v.labels ≡ true)
  InGammaScalar v (pointer p) = InGammaPointer v.pointer p

  -- a byte that a cell of a class owns: a cell of pointers has null for each number
  abbrev pub InGammaContent : Value I → Class → Content → Type 0
  InGammaContent v class indeterminate = v.indeterminate ≡ true
  InGammaContent v class (number n labels) = (labels_leq (as_set labels) v.labels ≡ true) × (is_pointer class ≡ true → v.pointer.null ≡ true)
  InGammaContent v class (part p k) = InGammaPointer v.pointer p

  abbrev pub InGammaZero : FirstZero I → List Byte → Type 0
  InGammaZero f bytes = gamma f.at (zero_offset (first_zero bytes))

  -- an instance of a heap base
  abbrev pub InGammaState : AllocState I → Life → ℕ → Type 0
  InGammaState s live size = gamma s.size (pos size) × (s.live ≡ true)
  InGammaState s ended size = gamma s.size (pos size)
  InGammaState s freed size = gamma s.size (pos size) × (s.freed ≡ true)

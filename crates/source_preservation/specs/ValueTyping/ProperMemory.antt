-- What holds of memory in each step of a run, and how it changes.
use Rattle.std.specs.Prelude.{◌≡◌, ◌<◌, ◌≤◌, ℕ, Some, length, slice_get}
use Rattle.c_layout.specs.declared.data_model.Model.{Model}
use Rattle.memory_model.specs.Memory.Bytes.{Content, indeterminate, number, part, Byte}
use Rattle.memory_model.specs.Memory.Instances.{Memory, bytes_at}
use Rattle.source_preservation.specs.ValueTyping.Marks.{IsBounded}

-- the number of a byte is below 256, and a pointer of which it is a part has bounds
abbrev pub IsProper : Model → Content → Type 0
IsProper m indeterminate = Unit {0}
IsProper m (number n labels) = n < 256
IsProper m (part p k) = IsBounded m p

abbrev pub IsProperMemory : Model → Memory → Type 0
IsProperMemory m memory = (i offset : ℕ) (b : Byte) → slice_get (bytes_at memory i) offset ≡ Some b → IsProper m b.content

-- no instance gets shorter
abbrev pub Grows : Memory → Memory → Type 0
Grows before after = (i : ℕ) → length (bytes_at before i) ≤ length (bytes_at after i)

-- how steps change memory: it stays proper, and no instance gets shorter
pub record Evolves (m : Model) (before after : Memory) : Type 0 where
  pub proper : IsProperMemory m before → IsProperMemory m after
  pub grows : Grows before after

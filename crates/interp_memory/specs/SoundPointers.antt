-- Pointers whose bounds lie within their instance.
use Rattle.std.specs.Prelude.{◌≤◌, length}
use Rattle.memory_model.specs.Memory.Bytes.{MachinePointer, null, into}
use Rattle.memory_model.specs.Memory.Instances.{Memory, bytes_at}

-- a null pointer has no bounds
abbrev pub IsWithin : Memory → MachinePointer → Type 0
IsWithin memory null = Unit {0}
IsWithin memory (into i offset lo hi) = hi ≤ length (bytes_at memory i)

-- The instances of objects in memory (6.2.4, 7.22.3), and their bytes.
use Rattle.std.specs.Prelude.{ℕ, ◌+◌, Option, Some, None, List, [], ◌∷◌, length, slice_get}
use Rattle.memory_model.specs.Memory.Bytes.{Byte}

pub data Storage : Type 0 where
  static : Storage
  automatic : Storage
  allocated : Storage
  literal : Storage

pub data Life : Type 0 where
  live : Life
  ended : Life
  freed : Life

pub record Instance : Type 0 where
  pub storage : Storage
  pub life : Life
  pub bytes : List Byte

abbrev pub Memory : Type 0
Memory = List Instance

abbrev pub bytes_of : Option Instance → List Byte
bytes_of None = []
bytes_of (Some instance) = instance.bytes

abbrev pub bytes_at : Memory → ℕ → List Byte
bytes_at memory i = bytes_of (slice_get memory i)

-- a byte of an instance; none past its end
unfoldable pub byte_at : Memory → ℕ → ℕ → Option Byte
byte_at memory i offset = slice_get (bytes_at memory i) offset

abbrev pub life_of : Option Instance → Life
life_of None = ended
life_of (Some instance) = instance.life

-- no instance is one whose lifetime has ended
abbrev pub life_at : Memory → ℕ → Life
life_at memory i = life_of (slice_get memory i)

-- how many bytes all instances have together, those that have ended too
abbrev pub total_size : Memory → ℕ
total_size [] = 0
total_size (instance ∷ instances) = length instance.bytes + total_size instances

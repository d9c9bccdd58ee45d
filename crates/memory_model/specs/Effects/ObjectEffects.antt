-- Lifetimes of objects, and their first bytes (6.2.4, 6.7.9).
use Rattle.std.specs.Prelude.{ℕ, zero, suc, List, [], ◌∷◌, ◌++◌, length, map, take, Option, Some, None, slice_get, slice_set}
use Rattle.c_layout.specs.declared.data_model.Model.{Model}
use Rattle.c_layout.specs.declared.leaf_lists.Leaf.{Leaf}
use Rattle.memory_model.specs.Memory.Labels.{no_labels}
use Rattle.memory_model.specs.Memory.Bytes.{Content, indeterminate, number, Byte}
use Rattle.memory_model.specs.Memory.Instances.{Storage, automatic, Life, live, ended, Instance, Memory, bytes_at}
use Rattle.memory_model.specs.Effects.Worlds.{World, with_memory}
use Rattle.memory_model.specs.Memory.Tags.{tag_at}
use Rattle.memory_model.specs.Effects.ScalarBytes.{refilled}
use Rattle.memory_model.specs.Effects.Touches.{set_bytes}

-- indeterminate bytes under the tags of a type's leaves, from an offset on
abbrev pub blank_bytes : Model → List Leaf → ℕ → ℕ → List Byte
blank_bytes m leaves at zero = []
blank_bytes m leaves at (suc n) = record { content = indeterminate; tag = tag_at m leaves at } ∷ blank_bytes m leaves (suc at) n

abbrev pub fresh : Storage → List Byte → Instance
fresh storage bytes = record { storage = storage; life = live; bytes = bytes }

-- the number of the next instance
abbrev pub next_instance : World → ℕ
next_instance w = length w.memory

abbrev pub with_instance : World → Instance → World
with_instance w instance = with_memory w (w.memory ++ instance ∷ [])

-- an object's lifetime begins
abbrev pub entered : Model → List Leaf → ℕ → World → World
entered m leaves size w = with_instance w (fresh automatic (blank_bytes m leaves 0 size))

abbrev pub with_life : Option Instance → Life → Memory → ℕ → Memory
with_life None now memory i = memory
with_life (Some it) now memory i = slice_set memory i (record it { life = now })

abbrev pub set_life : Memory → ℕ → Life → Memory
set_life memory i life = with_life (slice_get memory i) life memory i

-- its lifetime ends
abbrev pub left : ℕ → World → World
left i w = with_memory w (set_life w.memory i ended)

abbrev pub holding : Content → Byte → Byte
holding c b = record b { content = c }

abbrev pub all_of : Content → List Byte → List Byte
all_of c bytes = map (holding c) bytes

-- all bytes become indeterminate
abbrev pub forgotten : ℕ → World → World
forgotten i w = with_memory w (set_bytes w.memory i (all_of indeterminate (bytes_at w.memory i)))

-- all bytes become 0
abbrev pub cleared : ℕ → World → World
cleared i w = with_memory w (set_bytes w.memory i (all_of (number 0 no_labels) (bytes_at w.memory i)))

abbrev pub characters : List ℕ → List Content
characters text = map (λ c. number c no_labels) text

-- a text and its closing zero, as far as they fit into so many bytes at an offset
abbrev pub spelled : ℕ → ℕ → ℕ → List ℕ → World → World
spelled i offset room text w = with_memory w (set_bytes w.memory i (refilled (bytes_at w.memory i) offset (take room (characters text ++ number 0 no_labels ∷ []))))

-- Worked rows of the definitions.
use Rattle.std.specs.Prelude.{◌≡◌, ℕ, refl, pos, negsuc, true, false, Some, None, [], ◌∷◌}
use Rattle.memory_model.specs.Memory.Labels.{no_labels}
use Rattle.memory_model.specs.Memory.Bytes.{number, Byte}
use Rattle.memory_model.specs.Memory.Instances.{Memory, allocated, freed, ended, byte_at, life_at, total_size}
use Rattle.memory_model.specs.Memory.Numbers.{Labelled, number_of}

abbrev plain : ℕ → Byte
plain n = record { content = number n no_labels; tag = None }

abbrev of : ℕ → Labelled
of n = record { number = n; labels = no_labels }

-- `01 02` is 513, `ff ff` is 65535, or -1 where it is signed
little_endian : number_of false (of 1 ∷ (of 2 ∷ [])) ≡ pos 513
little_endian = refl

unsigned : number_of false (of 255 ∷ (of 255 ∷ [])) ≡ pos 65535
unsigned = refl

signed : number_of true (of 255 ∷ (of 255 ∷ [])) ≡ negsuc 0
signed = refl

least : number_of true (of 128 ∷ []) ≡ negsuc 127
least = refl

abbrev one_block : Memory
one_block = record { storage = allocated; life = freed; bytes = plain 7 ∷ [] } ∷ []

first_byte : byte_at one_block 0 0 ≡ Some (plain 7)
unfolding byte_at
first_byte = refl

past_the_end : byte_at one_block 0 1 ≡ None
unfolding byte_at
past_the_end = refl

freed_block : life_at one_block 0 ≡ freed
freed_block = refl

no_block : life_at one_block 1 ≡ ended
no_block = refl

one_byte : total_size one_block ≡ 1
one_byte = refl

-- The first zero byte of an array behind determinate bytes alone.
use Rattle.std.specs.Prelude.{ℕ, zero, suc, ℤ, pos, List, [], ◌∷◌, Option, Some, None}
use Rattle.value_domain.specs.Strings.FirstZeros.{the_end}
use Rattle.memory_model.specs.Memory.Bytes.{Content, indeterminate, number, part, Byte}

-- what a string function sees of a byte
pub data Seen : Type 0 where
  unknown : Seen
  end : Seen
  character : Seen

abbrev pub seen_as : Content → Seen
seen_as indeterminate = unknown
seen_as (number zero labels) = end
seen_as (number (suc n) labels) = character
seen_as (part p k) = character

abbrev pub one_more : Option ℕ → Option ℕ
one_more None = None
one_more (Some n) = Some (suc n)

abbrev pub zero_by : Seen → Option ℕ → Option ℕ
zero_by unknown behind = None
zero_by end behind = Some 0
zero_by character behind = one_more behind

abbrev pub first_zero : List Byte → Option ℕ
first_zero [] = None
first_zero (b ∷ bs) = zero_by (seen_as b.content) (first_zero bs)

abbrev pub zero_offset : Option ℕ → ℤ
zero_offset None = the_end
zero_offset (Some n) = pos n

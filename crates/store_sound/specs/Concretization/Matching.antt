-- What a load of a class at a place sees: bytes that lie there under the tags of the class, or under
-- none.
use Rattle.std.specs.Prelude.{◌≡◌, ℕ, ◌+◌, ◌<◌, Option, Some, None, List, length, slice_get}
use Rattle.c_layout.specs.declared.data_model.Model.{Model}
use Rattle.c_layout.specs.declared.leaf_lists.Class.{Class}
use Rattle.memory_model.specs.Memory.ScalarSizes.{class_bytes}
use Rattle.memory_model.specs.Memory.Bytes.{Content, number, Tag}
use Rattle.memory_model.specs.Memory.Instances.{Memory, byte_at}
use Rattle.memory_model.specs.Memory.Numbers.{Labelled}

-- the tag is that of the k-th byte of the class, or there is none
abbrev pub Fits : Class → ℕ → Option Tag → Type 0
Fits class k None = Unit {0}
Fits class k (Some tag) = (tag.class ≡ class) × (tag.at ≡ k)

-- the byte at an offset is seen as the k-th byte of the class, and holds this
pub record Matched (memory : Memory) (i offset : ℕ) (class : Class) (k : ℕ) (content : Content) : Type 0 where
  pub tag : Option Tag
  pub here : byte_at memory i offset ≡ Some (record { content = content; tag = tag })
  pub fits : Fits class k tag

abbrev pub number_in : Labelled → Content
number_in n = number n.number n.labels

-- all bytes at a place are seen as those of the class, and hold these numbers
pub record Holds (m : Model) (memory : Memory) (i offset : ℕ) (class : Class) (numbers : List Labelled) : Type 0 where
  pub size : length numbers ≡ class_bytes m class
  pub each : (k : ℕ) (n : Labelled) → k < length numbers → slice_get numbers k ≡ Some n → Matched memory i (offset + k) class k (number_in n)

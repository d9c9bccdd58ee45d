-- How scalars stand in bytes (6.2.6), with the least significant byte first.
use Rattle.std.specs.Prelude.{ℕ, zero, suc, ◌+◌, ◌*◌, ◌/◌, ◌%◌, ◌^◌, ℤ, pos, unsigned_abs, List, [], ◌∷◌, ◌++◌, map, length, take, drop}
use Rattle.std.specs.Int.{int_rem_euclid}
use Rattle.c_layout.specs.declared.leaf_lists.Class.{Class}
use Rattle.memory_model.specs.Memory.Labels.{Labels}
use Rattle.memory_model.specs.Memory.Labels.{no_labels}
use Rattle.memory_model.specs.Memory.Bytes.{MachinePointer, null, into, Content, number, part, Byte}
use Rattle.memory_model.specs.Memory.Tags.{tag_of}
use Rattle.memory_model.specs.Memory.Scalars.{Scalar, integer, pointer}

-- so many bytes of a number, with its labels
abbrev pub number_bytes : ℕ → ℕ → Labels → List Content
number_bytes zero n labels = []
number_bytes (suc k) n labels = number (n % 256) labels ∷ number_bytes k (n / 256) labels

-- so many parts of a pointer, from a part on
abbrev pub parts_from : MachinePointer → ℕ → ℕ → List Content
parts_from p at zero = []
parts_from p at (suc k) = part p at ∷ parts_from p (suc at) k

-- a null pointer is all zeros
abbrev pub pointer_bytes : ℕ → MachinePointer → List Content
pointer_bytes size null = number_bytes size 0 no_labels
pointer_bytes size (into i offset lo hi) = parts_from (into i offset lo hi) 0 size

-- the bits of a number in so many bytes
abbrev pub bits_in : ℕ → ℤ → ℕ
bits_in size n = unsigned_abs (int_rem_euclid n (pos (2 ^ (8 * size))))

abbrev pub scalar_bytes : ℕ → Scalar → List Content
scalar_bytes size (integer n labels) = number_bytes size (bits_in size n) labels
scalar_bytes size (pointer p) = pointer_bytes size p

-- ---- bytes written

-- bytes that keep their tags
abbrev pub filled : List Byte → List Content → List Byte
filled (b ∷ bs) (c ∷ cs) = record b { content = c } ∷ filled bs cs
filled bs [] = bs
filled [] cs = []

-- bytes that get the tags of a scalar of a class, from a number on
abbrev pub tagged_from : Class → ℕ → List Content → List Byte
tagged_from class k [] = []
tagged_from class k (c ∷ cs) = record { content = c; tag = tag_of class k } ∷ tagged_from class (suc k) cs

-- bytes in the place of so many from an offset on
abbrev pub replaced : List Byte → ℕ → List Byte → List Byte
replaced bytes offset new = take offset bytes ++ (new ++ drop (offset + length new) bytes)

-- contents in the place of so many from an offset on; the tags stay
abbrev pub refilled : List Byte → ℕ → List Content → List Byte
refilled bytes offset contents = take offset bytes ++ filled (drop offset bytes) contents

-- the bytes of a region
abbrev pub region : List Byte → ℕ → ℕ → List Byte
region bytes offset size = take size (drop offset bytes)

abbrev pub contents : List Byte → List Content
contents bytes = map (λ b. b.content) bytes

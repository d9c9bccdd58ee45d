-- The layout of types (6.2.8 and 6.7.2.1): sizes, alignments, offsets and leaves.
use Rattle.std.specs.Prelude.{ℕ, Bool, true, false, ◌&&◌, ◌+◌, ◌-◌, ◌*◌, ◌/◌, ◌^◌, nat_le, nat_lt, List, length}
use Rattle.c_layout.specs.Types.{Ty, Int, Pointer, Array, Struct, Void}
use Rattle.c_layout.specs.StructViews.{StructView, struct_at}

-- the most bytes that a type may have
abbrev pub most_bytes : ℕ
most_bytes = 2 ^ 30

-- the next multiple of an alignment
abbrev pub round_up : ℕ → ℕ → ℕ
round_up n align = (n + align - 1) / align * align

-- the size in bytes of a type over structs that are laid out; an incomplete type has size 0
abbrev pub size_of_type : List StructView → ℕ → Ty → ℕ
size_of_type structs pointer (Int k) = k.bytes
size_of_type structs pointer (Pointer t) = pointer
size_of_type structs pointer (Array t n) = n * size_of_type structs pointer t
size_of_type structs pointer (Struct i) = (struct_at structs i).size
size_of_type structs pointer Void = 0

-- scalars are aligned to their size
abbrev pub align_of_type : List StructView → ℕ → Ty → ℕ
align_of_type structs pointer (Int k) = k.bytes
align_of_type structs pointer (Pointer t) = pointer
align_of_type structs pointer (Array t n) = align_of_type structs pointer t
align_of_type structs pointer (Struct i) = (struct_at structs i).align
align_of_type structs pointer Void = 1

-- a complete type of at most the most bytes, in each of its parts
abbrev pub is_complete : List StructView → ℕ → Ty → Bool
is_complete structs pointer (Int k) = nat_lt 0 k.bytes && nat_le k.bytes 8
is_complete structs pointer (Pointer t) = true
is_complete structs pointer (Array t n) = is_complete structs pointer t && nat_le (n * size_of_type structs pointer t) most_bytes
is_complete structs pointer (Struct i) = nat_lt i (length structs) && (((struct_at structs i).complete && nat_lt 0 (struct_at structs i).align) && nat_le (struct_at structs i).size most_bytes)
is_complete structs pointer Void = false

-- The sizes of types that are complete (6.2.5). An array of unknown length has the count 0.
use Rattle.std.specs.Prelude.{ℕ, ◌*◌, ◌&&◌, nat_le, nat_lt, List, length, Option, Some, None, cond, option_and_then}
use Rattle.c_layout.specs.Types.{Ty, Int, Pointer, Array, Struct, Void}
use Rattle.c_layout.specs.StructViews.{StructView, struct_at}
use Rattle.c_layout.specs.Layout.{most_bytes}

abbrev pub array_size : ℕ → ℕ → Option ℕ
array_size count size = cond (nat_lt 0 count && nat_le (count * size) most_bytes) (Some (count * size)) None

-- the size of a complete type of at most the most bytes
abbrev pub sized : List StructView → ℕ → Ty → Option ℕ
sized structs pointer (Int k) = cond (nat_lt 0 k.bytes && nat_le k.bytes 8) (Some k.bytes) None
sized structs pointer (Pointer t) = Some pointer
sized structs pointer (Array t n) = option_and_then (array_size n) (sized structs pointer t)
sized structs pointer (Struct i) = cond (nat_lt i (length structs) && (((struct_at structs i).complete && nat_lt 0 (struct_at structs i).align) && nat_le (struct_at structs i).size most_bytes)) (Some (struct_at structs i).size) None
sized structs pointer Void = None

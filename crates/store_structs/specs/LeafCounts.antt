-- How many leaves a type has, and how many bytes, in 64 bits.
use Rattle.std.specs.Prelude.{ℕ, ◌*◌, cond, List}
use Rattle.c_layout.specs.Types.{Ty, Int, Pointer, Array, Struct, Void}
use Rattle.c_layout.specs.StructViews.{StructView, struct_at}
use Rattle.c_layout.specs.Leaves.{is_short, behind_long}
use Rattle.store_cells.specs.RowPositions.{capped}

abbrev pub bytes_in : List StructView → ℕ → Ty → ℕ
bytes_in structs pointer (Int k) = k.bytes
bytes_in structs pointer (Pointer t) = pointer
bytes_in structs pointer (Array t n) = capped (n * bytes_in structs pointer t)
bytes_in structs pointer (Struct i) = (struct_at structs i).size
bytes_in structs pointer Void = 0

-- where no array is folded
abbrev pub plain_count : List StructView → Ty → ℕ
plain_count structs (Int k) = 1
plain_count structs (Pointer t) = 1
plain_count structs (Array t n) = capped (n * plain_count structs t)
plain_count structs (Struct i) = (struct_at structs i).plain_leaves
plain_count structs Void = 0

-- the elements of the long arrays that stand one in another
abbrev pub long_count : Ty → ℕ
long_count (Array t n) = cond (is_short n) 1 (capped (n * long_count t))
long_count _ = 1

-- with long arrays folded
abbrev pub folded_count : List StructView → Ty → ℕ
folded_count structs (Int k) = 1
folded_count structs (Pointer t) = 1
folded_count structs (Array t n) = cond (is_short n) (capped (n * folded_count structs t)) (plain_count structs (behind_long t))
folded_count structs (Struct i) = (struct_at structs i).leaves
folded_count structs Void = 0

-- The scalar types of a model, by class.
use Rattle.std.specs.Prelude.{ℕ, Bool, cond, ◌==◌}
use Rattle.cc_base.specs.declared.int_types.IntType.{IntType}
use Rattle.c_layout.specs.declared.data_model.Model.{Model}
use Rattle.c_layout.specs.declared.leaf_lists.Class.{Class}
use Rattle.c_layout.specs.declared.leaf_lists.Class.TheVariants.{Char, Short, Int, Long, LongLong, Pointer}

-- a model has int of 2 or 4 bytes, long of 4 or 8, pointers of 4 or 8
abbrev pub int_bytes : Model → ℕ
int_bytes m = cond (m.int == 2) 2 4

abbrev pub long_bytes : Model → ℕ
long_bytes m = cond (m.long == 4) 4 8

abbrev pub pointer_bytes : Model → ℕ
pointer_bytes m = cond (m.pointer == 4) 4 8

-- the size of a scalar of a class
abbrev pub class_bytes : Model → Class → ℕ
class_bytes m Char = 1
class_bytes m Short = 2
class_bytes m Int = int_bytes m
class_bytes m Long = long_bytes m
class_bytes m LongLong = 8
class_bytes m Pointer = pointer_bytes m

abbrev pub class_rank : Class → ℕ
class_rank Pointer = 0
class_rank Char = 1
class_rank Short = 2
class_rank Int = 3
class_rank Long = 4
class_rank LongLong = 5

-- the integer type of a class and a signedness
abbrev pub kind_of : Model → Class → Bool → IntType
kind_of m c s = record { bytes = class_bytes m c; signed = s; rank = class_rank c }

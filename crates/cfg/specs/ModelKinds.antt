-- The integer types of a data model, and the sizes of scalars by their classes.
use Rattle.std.specs.Prelude.{ℕ, Bool, ◌&&◌, ◌==◌, nat_le}
use Rattle.cc_base.specs.IntegerTypes.{is_size}
use Rattle.cc_base.specs.declared.int_types.IntType.{IntType}
use Rattle.c_layout.specs.Leaves.{class_of}
use Rattle.c_layout.specs.declared.data_model.Model.{Model}
use Rattle.c_layout.specs.declared.leaf_lists.Class.{Class}
use Rattle.c_layout.specs.declared.leaf_lists.Class.TheVariants.{Char, Short, Int, Long, LongLong, Pointer}

-- the size of a scalar of a class
abbrev pub class_bytes : Model → Class → ℕ
class_bytes m Char = 1
class_bytes m Short = m.short
class_bytes m Int = m.int
class_bytes m Long = m.long
class_bytes m LongLong = m.long_long
class_bytes m Pointer = m.pointer

-- one of the five ranks, and the bytes that the model gives its class
abbrev pub is_int_type : Model → IntType → Bool
is_int_type m kind = is_size kind.bytes && ((kind.bytes == class_bytes m (class_of kind)) && (nat_le 1 kind.rank && nat_le kind.rank 5))

abbrev pub class_number : Class → ℕ
class_number Char = 0
class_number Short = 1
class_number Int = 2
class_number Long = 3
class_number LongLong = 4
class_number Pointer = 5

abbrev pub same_class : Class → Class → Bool
same_class c d = class_number c == class_number d

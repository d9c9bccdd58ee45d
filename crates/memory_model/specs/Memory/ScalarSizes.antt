-- The sizes of scalars by their classes, and which classes are the same.
use Rattle.std.specs.Prelude.{ℕ, Bool, cond, ◌==◌}
use Rattle.c_layout.specs.declared.data_model.Model.{Model}
use Rattle.c_layout.specs.declared.leaf_lists.Class.{Class}
use Rattle.c_layout.specs.declared.leaf_lists.Class.TheVariants.{Char, Short, Int, Long, LongLong, Pointer}

-- int has 2 or 4 bytes, long 4 or 8, a pointer 4 or 8
abbrev pub class_bytes : Model → Class → ℕ
class_bytes m Char = 1
class_bytes m Short = 2
class_bytes m Int = cond (m.int == 2) 2 4
class_bytes m Long = cond (m.long == 4) 4 8
class_bytes m LongLong = 8
class_bytes m Pointer = cond (m.pointer == 4) 4 8

abbrev pub class_number : Class → ℕ
class_number Char = 0
class_number Short = 1
class_number Int = 2
class_number Long = 3
class_number LongLong = 4
class_number Pointer = 5

abbrev pub same_class : Class → Class → Bool
same_class c d = class_number c == class_number d

abbrev pub is_pointer : Class → Bool
is_pointer c = class_number c == 5

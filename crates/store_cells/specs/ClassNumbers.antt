-- Classes, by their numbers among the class cells.
use Rattle.std.specs.Prelude.{ℕ, Bool, cond, ◌==◌}
use Rattle.c_layout.specs.declared.leaf_lists.Class.{Class}
use Rattle.c_layout.specs.declared.leaf_lists.Class.TheVariants.{Char, Short, Int, Long, LongLong, Pointer}

abbrev pub class_number : Class → ℕ
class_number Char = 0
class_number Short = 1
class_number Int = 2
class_number Long = 3
class_number LongLong = 4
class_number Pointer = 5

-- the class of a class cell
abbrev pub class_at : ℕ → Class
class_at at = cond (at == 0) Char (cond (at == 1) Short (cond (at == 2) Int (cond (at == 3) Long (cond (at == 4) LongLong Pointer))))

abbrev pub same_class : Class → Class → Bool
same_class c d = class_number c == class_number d

abbrev pub is_pointer : Class → Bool
is_pointer c = class_number c == 5

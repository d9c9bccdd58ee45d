-- Scalars of instructions, by class.
use Rattle.std.specs.Prelude.{ℕ, zero, suc, Bool, false, not, ◌||◌}
use Rattle.cc_base.specs.declared.int_types.IntType.{IntType}
use Rattle.c_layout.specs.declared.leaf_lists.Class.{Class}
use Rattle.c_layout.specs.declared.leaf_lists.Class.TheVariants.{Char, Short, Int, Long, LongLong, Pointer}
use Rattle.cfg.specs.declared.machine_instructions.Scalar.{Scalar}
use Rattle.cfg.specs.declared.machine_instructions.Scalar.TheVariants as scalar
use Rattle.store_cells.specs.ClassNumbers.{same_class}

-- the class of a rank
abbrev pub class_of_rank : ℕ → Class
class_of_rank (suc zero) = Char
class_of_rank (suc (suc zero)) = Short
class_of_rank (suc (suc (suc zero))) = Int
class_of_rank (suc (suc (suc (suc zero)))) = Long
class_of_rank _ = LongLong

abbrev pub class_of_kind : IntType → Class
class_of_kind kind = class_of_rank kind.rank

-- the class of a scalar, and whether it is signed; pointers are not
abbrev pub class_of : Scalar → Class × Bool
class_of (scalar.Int kind) = (class_of_kind kind, kind.signed)
class_of scalar.Pointer = (Pointer, false)

-- a load of the scalar may not read an indeterminate byte; of unsigned char it stops there, and
-- violates nothing
abbrev pub minds_blank : Class → Bool → Bool
minds_blank class signed = not (same_class class Char) || signed

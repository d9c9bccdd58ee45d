-- The length that an expression in brackets is (6.7.6.2): an integer constant above 0.
use Rattle.std.specs.Prelude.{ℕ, ℤ, pos, negsuc, ◌&&◌, cond, nat_lt, nat_le, List, Vec, Option, Some, None}
use Rattle.std.specs.Global.{Global}
use Rattle.c_layout.specs.Types.{Ty, Int}
use Rattle.c_layout.specs.CheckedTrees.{TermTree}
use Rattle.c_types_operands.specs.Operands.{term_type, term_constant}

-- a positive number of 64 bits
abbrev pub positive : ℤ → Option ℕ
positive (pos n) = cond (nat_lt 0 n && nat_le n 18446744073709551615) (Some n) None
positive (negsuc n) = None

abbrev pub positive_if : Option ℤ → Option ℕ
positive_if None = None
positive_if (Some n) = positive n

abbrev pub length_by : Ty → Option ℤ → Option ℕ
length_by (Int kind) constant = positive_if constant
length_by _ constant = None

abbrev pub length_of : TermTree → Option ℕ
length_of e = length_by (term_type e) (term_constant e)

-- lengths, as contracts see them
abbrev pub length_view : Option ℕ → Option ℕ
length_view n = n

abbrev pub lengths_view : Vec (Option ℕ) Global → List (Option ℕ)
lengths_view v = v.items

-- The type of an integer constant: the first of the list of 6.4.4.1 that has its value.
use Rattle.std.specs.Prelude.{ℕ, ◌-◌, ◌*◌, ◌^◌, Bool, true, false, ◌||◌, ◌&&◌, not, ◌==◌, cond, nat_le, Option, Some, None, List, option_and_then}
use Rattle.std.specs.Option.{option_or}
use Rattle.cc_base.specs.declared.int_types.IntType.{IntType}
use Rattle.c_layout.specs.declared.data_model.Model.{Model}
use Rattle.c_layout.specs.declared.syntax_tree.expressions.Constant.{Constant}
use Rattle.c_parser_tokens.specs.declared.integer_forms.Spelled.{Spelled}
use Rattle.c_parser_tokens.specs.IntegerForms.{read_integer}

-- the size of int, long and long long, by their ranks 3, 4 and 5
abbrev pub bytes_of : Model → ℕ → ℕ
bytes_of m rank = cond (rank == 3) m.int (cond (rank == 4) m.long m.long_long)

-- the greatest number of a type of 1, 2 or 4 bytes; those of others are the greatest of 8
abbrev pub greatest : ℕ → Bool → ℕ
greatest bytes signed =
    cond (bytes == 1) (cond signed (2 ^ 7 - 1) (2 ^ 8 - 1))
    (cond (bytes == 2) (cond signed (2 ^ 15 - 1) (2 ^ 16 - 1))
    (cond (bytes == 4) (cond signed (2 ^ 31 - 1) (2 ^ 32 - 1))
    (cond signed (2 ^ 63 - 1) (2 ^ 64 - 1))))

-- the signed or unsigned type of a rank, where it has the value
abbrev pub fitting : Model → ℕ → Bool → ℕ → Option IntType
fitting m rank signed value = cond (nat_le value (greatest (bytes_of m rank) signed)) (Some (record { bytes = bytes_of m rank; signed = signed; rank = rank })) None

-- whether the types of a rank stand in the list of a suffix
abbrev pub is_listed : ℕ → ℕ → Bool
is_listed longs rank = cond (longs == 0) true (cond (longs == 1) (nat_le 4 rank) (nat_le 5 rank))

-- the first type of a rank that the list has and that has the value: the signed one goes first
abbrev pub of_rank : Model → Spelled → ℕ → Option IntType
of_rank m c rank =
    cond (is_listed c.suffix.longs rank)
    (option_or (cond (not c.suffix.is_unsigned) (fitting m rank true c.value) None) (cond (c.suffix.is_unsigned || not (c.base == 10)) (fitting m rank false c.value) None))
    None

abbrev pub type_of : Model → Spelled → Option IntType
type_of m c = option_or (of_rank m c 3) (option_or (of_rank m c 4) (of_rank m c 5))

abbrev pub with_type : Spelled → IntType → Constant
with_type c kind = record { value = c.value; negative = false; kind = kind }

-- the integer constant that is spelled so, with its type
abbrev pub integer_constant : Model → List ℕ → Option Constant
integer_constant m text = option_and_then (λ c. option_and_then (λ kind. Some (with_type c kind)) (type_of m c)) (read_integer text)

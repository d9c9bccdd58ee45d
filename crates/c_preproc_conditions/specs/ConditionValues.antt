-- The values of a condition: numbers of intmax_t and uintmax_t, of 64 bits, and faults (6.10.1p4).
use Rattle.std.specs.Prelude.{ℕ, ℤ, pos, Bool, true, false, ◌||◌, ◌==◌, cond, not, Option, Some, None}
use Rattle.std.specs.Ordering.{int_eq}
use Rattle.std.specs.Int.{w64, cast_unsigned}
use Rattle.c_preproc_conditions.specs.declared.condition_value.Number.{Number}
use Rattle.c_preproc_conditions.specs.declared.condition_value.Number.TheVariants.{Signed, Unsigned}
use Rattle.c_preproc_conditions.specs.declared.condition_value.Value.{Value}

abbrev pub is_unsigned : Number → Bool
is_unsigned (Signed n) = false
is_unsigned (Unsigned n) = true

abbrev pub is_zero : Number → Bool
is_zero (Signed n) = int_eq n (pos 0)
is_zero (Unsigned n) = n == 0

-- 1 or 0
abbrev pub truth : Bool → Number
truth b = Signed (cond b (pos 1) (pos 0))

-- a value whose computation is defined
abbrev pub defined : Number → Value
defined n = record { number = n; faulty = false }

abbrev pub fault : Number → Value
fault n = record { number = n; faulty = true }

-- a number, or a fault of its type
abbrev pub signed_or_fault : Option ℤ → Value
signed_or_fault (Some n) = defined (Signed n)
signed_or_fault None = fault (Signed (pos 0))

abbrev pub unsigned_or_fault : Option ℕ → Value
unsigned_or_fault (Some n) = defined (Unsigned n)
unsigned_or_fault None = fault (Unsigned 0)

-- faulty also where an operand is
abbrev pub with_faults : Value → Bool → Bool → Value
with_faults v left right = record { number = v.number; faulty = v.faulty || left || right }

abbrev pub is_nonzero : Number → Bool
is_nonzero n = not (is_zero n)

-- whether the left operand decides: it is 0 for `&&`, and is not 0 for `||`
abbrev pub decides : Number → Bool → Bool
decides n by = cond by (is_nonzero n) (is_zero n)

-- `left && right` where false decides, `left || right` where true does: the right operand counts only where the
-- left one does not decide
abbrev pub logical : Value → Value → Bool → Value
logical left right by =
    cond left.faulty (fault (truth false)) (cond (decides left.number by) (defined (truth by)) (with_faults (defined (truth (is_nonzero right.number))) right.faulty false))

-- a number modulo 2^64
abbrev pub as_unsigned : Number → ℕ
as_unsigned (Signed n) = cast_unsigned w64 n
as_unsigned (Unsigned n) = n

-- a number in the type that two operands have
abbrev pub converted : Bool → Number → Number
converted is_unsigned n = cond is_unsigned (Unsigned (as_unsigned n)) n

-- `condition ? left : right`: the arm that is chosen counts, in the type of both
abbrev pub choice : Value → Value → Value → Value
choice condition left right =
    let chosen = cond (is_zero condition.number) right left in
    with_faults (defined (converted (is_unsigned left.number || is_unsigned right.number) chosen.number)) condition.faulty chosen.faulty

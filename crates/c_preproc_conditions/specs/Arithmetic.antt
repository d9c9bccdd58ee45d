-- The arithmetic of conditions (6.5.3 to 6.5.14) in 64 bits: what the operators give, and where they have no result.
use Rattle.std.specs.Prelude.{ℕ, ◌+◌, ◌-◌, ◌*◌, ◌^◌, ◌%◌, ◌/◌, ◌==◌, ℤ, pos, negsuc, ◌+ℤ◌, ◌-ℤ◌, ◌*ℤ◌, not, ◌&&◌, cond, int_le, int_lt, nat_le, nat_lt, int_div, int_rem, neg_ℤ, unsigned_abs, true, false, Option, Some, None}
use Rattle.std.specs.Ordering.{int_eq}
use Rattle.std.specs.Int.{w64, int_bit_and, int_bit_or, int_bit_xor, int_bit_not, bit_not, int_shr}
use Rattle.std.specs.Int.Bits.{bit_and, bit_or, bit_xor}
use Rattle.c_preproc_conditions.specs.declared.condition_value.Number.{Number}
use Rattle.c_preproc_conditions.specs.declared.condition_value.Number.TheVariants.{Signed, Unsigned}
use Rattle.c_preproc_conditions.specs.declared.condition_value.Value.{Value}
use Rattle.c_preproc_conditions.specs.declared.operations.Unary.{Unary}
use Rattle.c_preproc_conditions.specs.declared.operations.Unary.TheVariants.{Plus, Minus, Complement, Not}
use Rattle.c_preproc_conditions.specs.declared.operations.Binary.{Binary}
use Rattle.c_preproc_conditions.specs.declared.operations.Binary.TheVariants.{Multiply, Divide, Remainder, Add, Subtract, Less, Greater, LessEqual, GreaterEqual, Equal, And, Xor, Or, ShiftLeft, ShiftRight, LogicalAnd, LogicalOr}
use Rattle.c_preproc_conditions.specs.ConditionValues.{defined, signed_or_fault, unsigned_or_fault, truth, is_zero, as_unsigned, with_faults, fault, logical}

-- a number that intmax_t has
abbrev pub in_signed : ℤ → Option ℤ
in_signed n = cond (int_le (negsuc (2 ^ 63 - 1)) n && int_lt n (pos (2 ^ 63))) (Some n) None

abbrev pub unless_zero : ℤ → ℤ → Option ℤ
unless_zero b result = cond (int_eq b (pos 0)) None (in_signed result)

abbrev pub signed_arithmetic : Binary → ℤ → ℤ → Value
signed_arithmetic Multiply a b = signed_or_fault (in_signed (a *ℤ b))
signed_arithmetic Divide a b = signed_or_fault (unless_zero b (int_div a b))
signed_arithmetic Remainder a b = signed_or_fault (cond (int_eq b (pos 0)) None (cond (int_lt (int_div a b) (pos (2 ^ 63))) (Some (int_rem a b)) None))
signed_arithmetic Add a b = signed_or_fault (in_signed (a +ℤ b))
signed_arithmetic Subtract a b = signed_or_fault (in_signed (a -ℤ b))
signed_arithmetic And a b = defined (Signed (int_bit_and w64 a b))
signed_arithmetic Xor a b = defined (Signed (int_bit_xor w64 a b))
signed_arithmetic Or a b = defined (Signed (int_bit_or w64 a b))
signed_arithmetic Less a b = defined (truth (int_lt a b))
signed_arithmetic Greater a b = defined (truth (int_lt b a))
signed_arithmetic LessEqual a b = defined (truth (int_le a b))
signed_arithmetic GreaterEqual a b = defined (truth (int_le b a))
signed_arithmetic Equal a b = defined (truth (int_eq a b))
signed_arithmetic _ a b = defined (truth (not (int_eq a b)))

abbrev pub unsigned_arithmetic : Binary → ℕ → ℕ → Value
unsigned_arithmetic Multiply a b = defined (Unsigned (a * b % 2 ^ 64))
unsigned_arithmetic Divide a b = unsigned_or_fault (cond (b == 0) None (Some (a / b)))
unsigned_arithmetic Remainder a b = unsigned_or_fault (cond (b == 0) None (Some (a % b)))
unsigned_arithmetic Add a b = defined (Unsigned ((a + b) % 2 ^ 64))
unsigned_arithmetic Subtract a b = defined (Unsigned ((a + (2 ^ 64 - b)) % 2 ^ 64))
unsigned_arithmetic And a b = defined (Unsigned (bit_and a b))
unsigned_arithmetic Xor a b = defined (Unsigned (bit_xor a b))
unsigned_arithmetic Or a b = defined (Unsigned (bit_or a b))
unsigned_arithmetic Less a b = defined (truth (nat_lt a b))
unsigned_arithmetic Greater a b = defined (truth (nat_lt b a))
unsigned_arithmetic LessEqual a b = defined (truth (nat_le a b))
unsigned_arithmetic GreaterEqual a b = defined (truth (nat_le b a))
unsigned_arithmetic Equal a b = defined (truth (a == b))
unsigned_arithmetic _ a b = defined (truth (not (a == b)))

-- the usual arithmetic conversions, and then the operator
abbrev pub arithmetic : Binary → Number → Number → Value
arithmetic op (Signed a) (Signed b) = signed_arithmetic op a b
arithmetic op left right = unsigned_arithmetic op (as_unsigned left) (as_unsigned right)

abbrev pub unary : Unary → Number → Value
unary Plus n = defined n
unary Not n = defined (truth (is_zero n))
unary Minus (Signed n) = signed_or_fault (in_signed (neg_ℤ n))
unary Minus (Unsigned n) = defined (Unsigned ((2 ^ 64 - n) % 2 ^ 64))
unary Complement (Signed n) = defined (Signed (int_bit_not w64 n))
unary Complement (Unsigned n) = defined (Unsigned (bit_not w64 n))

-- the value of a unary operator
abbrev pub apply_unary : Unary → Value → Value
apply_unary op v = with_faults (unary op v.number) v.faulty false

-- the count of a shift of 64 bits
abbrev pub shift_count : Number → Option ℕ
shift_count (Signed n) = cond (int_le (pos 0) n && int_lt n (pos 64)) (Some (unsigned_abs n)) None
shift_count (Unsigned n) = cond (nat_lt n 64) (Some n) None

-- `a << count` for a number that is not negative, where the result fits
abbrev pub shifted_left : ℤ → ℕ → Option ℤ
shifted_left a count = cond (nat_lt count 64 && int_le (pos 0) a) (in_signed (a *ℤ pos (2 ^ count))) None

abbrev pub shift_in_range : Binary → Number → ℕ → Value
shift_in_range ShiftLeft (Signed a) count = signed_or_fault (shifted_left a count)
shift_in_range _ (Signed a) count = defined (Signed (int_shr a count))
shift_in_range ShiftLeft (Unsigned a) count = defined (Unsigned (a * 2 ^ count % 2 ^ 64))
shift_in_range _ (Unsigned a) count = defined (Unsigned (a / 2 ^ count))

abbrev pub shift : Binary → Number → ℕ → Value
shift op left count = cond (nat_lt count 64) (shift_in_range op left count) (fault (Signed (pos 0)))

abbrev pub fault_of : Number → Value
fault_of (Signed n) = fault (Signed (pos 0))
fault_of (Unsigned n) = fault (Unsigned 0)

abbrev pub counted_shift : Binary → Number → Option ℕ → Value
counted_shift op left (Some count) = shift op left count
counted_shift op left None = fault_of left

abbrev pub shift_or_fault : Binary → Number → Number → Value
shift_or_fault op left right = counted_shift op left (shift_count right)

-- the value of a binary operator
abbrev pub apply_binary : Binary → Value → Value → Value
apply_binary LogicalAnd left right = logical left right false
apply_binary LogicalOr left right = logical left right true
apply_binary ShiftLeft left right = with_faults (shift_or_fault ShiftLeft left.number right.number) left.faulty right.faulty
apply_binary ShiftRight left right = with_faults (shift_or_fault ShiftRight left.number right.number) left.faulty right.faulty
apply_binary op left right = with_faults (arithmetic op left.number right.number) left.faulty right.faulty

-- The values of integer constant expressions (6.5.3 to 6.5.14, 6.6): what an operator gives in a type, and where it
-- has no result.
use Rattle.std.specs.Prelude.{ℕ, ◌+◌, ◌-◌, ◌*◌, ◌^◌, ◌%◌, ◌/◌, ◌==◌, ℤ, pos, negsuc, ◌+ℤ◌, ◌-ℤ◌, ◌*ℤ◌, Bool, not, ◌&&◌, cond, int_le, int_lt, nat_lt, int_div, int_rem, neg_ℤ, unsigned_abs, true, Option, Some, None, option_and_then, option_map, is_some}
use Rattle.std.specs.Ordering.{int_eq}
use Rattle.std.specs.Int.{w64, int_bit_and, int_bit_or, int_bit_xor, int_bit_not, bit_not, int_shr, int_rem_euclid}
use Rattle.std.specs.Int.Bits.{bit_and, bit_or, bit_xor}
use Rattle.cc_base.specs.declared.int_types.IntType.{IntType}
use Rattle.c_layout.specs.declared.syntax_tree.expressions.BinaryOp.{BinaryOp}
use Rattle.c_layout.specs.declared.syntax_tree.expressions.BinaryOp.TheVariants.{Multiply, Divide, Remainder, Add, Subtract, ShiftLeft, Less, Greater, LessEqual, GreaterEqual, Equal, NotEqual, And, Xor, Or}

-- how many numbers a type has; a size that no type has counts as 8 bytes
abbrev pub modulus_of : IntType → ℕ
modulus_of k = cond (k.bytes == 1) 256 (cond (k.bytes == 2) 65536 (cond (k.bytes == 4) 4294967296 18446744073709551616))

-- a number below the modulus as one of the type
abbrev pub turned : IntType → ℤ → ℤ
turned k n = cond (k.signed && int_le (pos (modulus_of k / 2)) n) (n -ℤ pos (modulus_of k)) n

-- the number of the type that is equal to a number modulo 2^width (6.3.1.3)
abbrev pub converted : IntType → ℤ → ℤ
converted k n = turned k (int_rem_euclid n (pos (modulus_of k)))

-- whether a type has a number
abbrev pub has_number : IntType → ℤ → Bool
has_number k n = int_eq (converted k n) n

-- a number, where the type has it
abbrev pub if_has : IntType → ℤ → Option ℤ
if_has k n = cond (has_number k n) (Some n) None

-- 1 or 0
abbrev pub truth : Bool → ℤ
truth b = cond b (pos 1) (pos 0)

-- numbers of 64 bits
abbrev pub in_64 : ℤ → Option ℤ
in_64 n = cond (int_le (negsuc (2 ^ 63 - 1)) n && int_lt n (pos (2 ^ 63))) (Some n) None

abbrev pub unless_zero : ℤ → ℤ → Option ℤ
unless_zero b result = cond (int_eq b (pos 0)) None (in_64 result)

-- what a relational or an equality operator says of two numbers
abbrev pub related : BinaryOp → ℤ → ℤ → Option Bool
related Less a b = Some (int_lt a b)
related Greater a b = Some (int_lt b a)
related LessEqual a b = Some (int_le a b)
related GreaterEqual a b = Some (int_le b a)
related Equal a b = Some (int_eq a b)
related NotEqual a b = Some (not (int_eq a b))
related _ a b = None

-- the mathematical result of an operator on signed numbers, where it is defined and fits 64 bits
abbrev pub signed_result : BinaryOp → ℤ → ℤ → Option ℤ
signed_result Multiply a b = in_64 (a *ℤ b)
signed_result Divide a b = unless_zero b (int_div a b)
signed_result Remainder a b = cond (int_eq b (pos 0)) None (cond (int_lt (int_div a b) (pos (2 ^ 63))) (Some (int_rem a b)) None)
signed_result Add a b = in_64 (a +ℤ b)
signed_result Subtract a b = in_64 (a -ℤ b)
signed_result And a b = Some (int_bit_and w64 a b)
signed_result Xor a b = Some (int_bit_xor w64 a b)
signed_result Or a b = Some (int_bit_or w64 a b)
signed_result _ a b = None

-- the result of an operator on unsigned numbers of 64 bits
abbrev pub unsigned_result : BinaryOp → ℕ → ℕ → Option ℕ
unsigned_result Multiply a b = Some (a * b % 2 ^ 64)
unsigned_result Divide a b = cond (b == 0) None (Some (a / b))
unsigned_result Remainder a b = cond (b == 0) None (Some (a % b))
unsigned_result Add a b = Some ((a + b) % 2 ^ 64)
unsigned_result Subtract a b = Some ((a + (2 ^ 64 - b)) % 2 ^ 64)
unsigned_result And a b = Some (bit_and a b)
unsigned_result Xor a b = Some (bit_xor a b)
unsigned_result Or a b = Some (bit_or a b)
unsigned_result _ a b = None

-- a number that 64 signed bits have; 0 stands for others, which no value is
abbrev pub signed_64 : ℤ → ℤ
signed_64 n = cond (int_le (negsuc (2 ^ 63 - 1)) n && int_lt n (pos (2 ^ 63))) n (pos 0)

-- a number that 64 unsigned bits have; 0 stands for others
abbrev pub unsigned_64 : ℤ → ℕ
unsigned_64 n = cond (int_le (pos 0) n && int_lt n (pos (2 ^ 64))) (unsigned_abs n) 0

-- the number of bits of a type
abbrev pub bits_of : IntType → ℕ
bits_of k = cond (k.bytes == 1) 8 (cond (k.bytes == 2) 16 (cond (k.bytes == 4) 32 64))

-- the remainder has no result where the quotient has none
abbrev pub quotient_fits : BinaryOp → IntType → ℤ → ℤ → Bool
quotient_fits Remainder k a b = is_some (option_and_then (if_has k) (signed_result Divide a b))
quotient_fits _ k a b = true

abbrev pub signed_folded : BinaryOp → IntType → ℤ → ℤ → Option ℤ
signed_folded op k a b = cond (quotient_fits op k a b) (option_and_then (if_has k) (signed_result op a b)) None

abbrev pub unsigned_folded : BinaryOp → IntType → ℕ → ℕ → Option ℤ
unsigned_folded op k a b = option_map (λ n. converted k (pos n)) (unsigned_result op a b)

abbrev pub arithmetic : BinaryOp → IntType → ℤ → ℤ → Option ℤ
arithmetic op k a b = cond k.signed (signed_folded op k (signed_64 a) (signed_64 b)) (unsigned_folded op k (unsigned_64 a) (unsigned_64 b))

abbrev pub related_or : BinaryOp → IntType → ℤ → ℤ → Option Bool → Option ℤ
related_or op k a b (Some holds) = Some (truth holds)
related_or op k a b None = arithmetic op k a b

-- the value of an operator on two operands, converted to the common type
abbrev pub folded : BinaryOp → IntType → ℤ → ℤ → Option ℤ
folded op k a b = related_or op k (converted k a) (converted k b) (related op (converted k a) (converted k b))

-- the count of a shift
abbrev pub count_of : IntType → ℤ → Option ℕ
count_of k n = cond (int_le (pos 0) n && int_lt n (pos (bits_of k))) (Some (unsigned_abs n)) None

-- `a << count` for a number that is not negative, where the result fits 64 bits
abbrev pub shifted_left : ℤ → ℕ → Option ℤ
shifted_left a count = cond (nat_lt count 64 && int_le (pos 0) a) (in_64 (a *ℤ pos (2 ^ count))) None

-- a shift of a signed number: to the left where that is defined, to the right by division that rounds down
abbrev pub signed_shift : BinaryOp → IntType → ℤ → ℕ → Option ℤ
signed_shift ShiftLeft k a count = option_and_then (if_has k) (shifted_left a count)
signed_shift _ k a count = Some (int_shr a count)

abbrev pub unsigned_shift : BinaryOp → IntType → ℕ → ℕ → ℤ
unsigned_shift ShiftLeft k a count = converted k (pos (a * 2 ^ count % 2 ^ 64))
unsigned_shift _ k a count = pos (a / 2 ^ count)

abbrev pub counted_shift : BinaryOp → IntType → ℤ → ℕ → Option ℤ
counted_shift op k a count = cond k.signed (signed_shift op k (signed_64 a) count) (Some (unsigned_shift op k (unsigned_64 a) count))

-- the value of a shift in the promoted type of its left operand
abbrev pub shifted : BinaryOp → IntType → ℤ → ℤ → Option ℤ
shifted op k a n = option_and_then (counted_shift op k a) (count_of k n)

abbrev pub negated : IntType → ℤ → Option ℤ
negated k n = cond k.signed (option_and_then (if_has k) (in_64 (neg_ℤ (signed_64 n)))) (Some (converted k (pos ((2 ^ 64 - unsigned_64 n) % 2 ^ 64))))

abbrev pub complemented : IntType → ℤ → ℤ
complemented k n = cond k.signed (int_bit_not w64 (signed_64 n)) (converted k (pos (bit_not w64 (unsigned_64 n))))

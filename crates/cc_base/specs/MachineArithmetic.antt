-- What the operators on integers give, where the machine goes on (6.3.1.3, 6.5.3.3 and 6.5.5 to 6.5.12).
use Rattle.std.specs.Prelude.{ℕ, ◌*◌, ◌^◌, ℤ, pos, negsuc, neg_ℤ, ◌+ℤ◌, ◌-ℤ◌, ◌*ℤ◌, unsigned_abs, Bool, cond, ◌&&◌, not, int_le, int_lt, int_div, int_rem, bit_and, bit_or, bit_xor, Option, Some, None}
use Rattle.std.specs.Int.{int_rem_euclid, int_shr}
use Rattle.std.specs.Ordering.{int_eq}
use Rattle.cc_base.specs.declared.int_types.IntType.{IntType}
use Rattle.cc_base.specs.declared.integer_operators.IntOp.{IntOp}
use Rattle.cc_base.specs.declared.integer_operators.IntOp.TheVariants.{Add, Sub, Mul, Div, Rem, And, Or, Xor, Shl, Shr}
use Rattle.cc_base.specs.declared.integer_operators.UnOp.{UnOp}
use Rattle.cc_base.specs.declared.integer_operators.UnOp.TheVariants.{Neg, Compl}
use Rattle.cc_base.specs.declared.integer_operators.Rel.{Rel}
use Rattle.cc_base.specs.declared.integer_operators.Rel.TheVariants.{Lt, Le, Gt, Ge, Eq, Ne}
use Rattle.cc_base.specs.IntegerTypes.{modulus, least_of, greatest_of, in_type, wrap_into}

-- a result outside the type stops the run
abbrev pub in_or_stop : IntType → ℤ → Option ℤ
in_or_stop k z = cond (in_type k z) (Some z) None

-- a mathematical result: a signed one outside the type stops the run, an unsigned one wraps
abbrev pub result_of : IntType → ℤ → Option ℤ
result_of k z = cond k.signed (in_or_stop k z) (Some (wrap_into k z))

-- the bits of a number in the type, as a natural number
abbrev pub bits_of : IntType → ℤ → ℕ
bits_of k z = unsigned_abs (int_rem_euclid z (pos (modulus k)))

-- the number of the type with these bits
abbrev pub of_bits : IntType → ℕ → ℤ
of_bits k n = wrap_into k (pos n)

-- the least number of a signed type, and -1
abbrev pub is_quotient_overflow : IntType → ℤ → ℤ → Bool
is_quotient_overflow k a b = k.signed && (int_eq a (least_of k) && int_eq b (negsuc 0))

-- a count from 0 to the width less 1
abbrev pub is_count : IntType → ℤ → Bool
is_count k b = int_le (pos 0) b && int_lt b (pos (8 * k.bytes))

-- a binary operator on two numbers of a type
abbrev pub binary_result : IntOp → IntType → ℤ → ℤ → Option ℤ
binary_result Add k a b = result_of k (a +ℤ b)
binary_result Sub k a b = result_of k (a -ℤ b)
binary_result Mul k a b = result_of k (a *ℤ b)
binary_result Div k a b = cond (int_eq b (pos 0)) None (in_or_stop k (int_div a b))
binary_result Rem k a b = cond (int_eq b (pos 0)) None (cond (is_quotient_overflow k a b) None (Some (int_rem a b)))
binary_result And k a b = Some (of_bits k (bit_and (bits_of k a) (bits_of k b)))
binary_result Or k a b = Some (of_bits k (bit_or (bits_of k a) (bits_of k b)))
binary_result Xor k a b = Some (of_bits k (bit_xor (bits_of k a) (bits_of k b)))
binary_result Shl k a b = cond (is_count k b) (cond (int_lt a (pos 0)) None (result_of k (a *ℤ pos (2 ^ unsigned_abs b)))) None
binary_result Shr k a b = cond (is_count k b) (Some (int_shr a (unsigned_abs b))) None

-- a unary operator on a number of a type
abbrev pub unary_result : UnOp → IntType → ℤ → Option ℤ
unary_result Neg k a = result_of k (neg_ℤ a)
unary_result Compl k a = Some ((least_of k +ℤ greatest_of k) -ℤ a)

-- whether two numbers have a relation
abbrev pub holds : Rel → ℤ → ℤ → Bool
holds Lt a b = int_lt a b
holds Le a b = int_le a b
holds Gt a b = int_lt b a
holds Ge a b = int_le b a
holds Eq a b = int_eq a b
holds Ne a b = not (int_eq a b)

-- Worked rows of results that stand for what the machine gives and are not the best: at the type of one signed byte.
use Rattle.std.specs.Prelude.{◌≡◌, pos, negsuc, true, Some, None, refl}
use lib.Count.{count_leading_zeros}
use Rattle.cc_base.specs.MachineArithmetic.{binary_result}
use Rattle.cc_base.specs.declared.int_types.IntType.{IntType}
use Rattle.cc_base.specs.declared.integer_operators.IntOp.TheVariants.{Mul, Div, Rem, And, Or, Shl}
use Rattle.interval_domain.specs.Intervals.Spans.{between_or_empty}
use Rattle.interval_domain.specs.Intervals.Arithmetic.{interval_arith}

char : IntType
char = record { bytes = 1; signed = true; rank = 1 }

-- 100 and 101 times 1 and 2: 200 and 202 are not of the type, so 101 is the greatest result
product_is : interval_arith Mul (between_or_empty (pos 100) (pos 101)) (between_or_empty (pos 1) (pos 2)) char ≡ between_or_empty (pos 100) (pos 127)
unfolding between_or_empty char
product_is = refl

product_stops : binary_result Mul char (pos 100) (pos 2) ≡ None
unfolding char
product_stops = refl

-- -128 by -1, 0 and 1: only the last goes on
quotient_is : interval_arith Div (between_or_empty (negsuc 127) (negsuc 127)) (between_or_empty (negsuc 0) (pos 1)) char ≡ between_or_empty (negsuc 127) (pos 127)
unfolding between_or_empty char
quotient_is = refl

quotient_stops : binary_result Div char (negsuc 127) (negsuc 0) ≡ None
unfolding char
quotient_stops = refl

-- 12 and 13 by 10 leave 2 and 3
remainder_is : interval_arith Rem (between_or_empty (pos 12) (pos 13)) (between_or_empty (pos 10) (pos 10)) char ≡ between_or_empty (pos 0) (pos 9)
unfolding between_or_empty char
remainder_is = refl

remainder_greatest : binary_result Rem char (pos 13) (pos 10) ≡ Some (pos 3)
unfolding char
remainder_greatest = refl

-- 4 & 3 is 0, 5 & 3 is 1
conjunction_is : interval_arith And (between_or_empty (pos 4) (pos 5)) (between_or_empty (pos 3) (pos 3)) char ≡ between_or_empty (pos 0) (pos 3)
unfolding between_or_empty char
conjunction_is = refl

conjunction_greatest : binary_result And char (pos 5) (pos 3) ≡ Some (pos 1)
unfolding char
conjunction_greatest = refl

-- 1 | 4 is 5, 2 | 4 is 6
disjunction_is : interval_arith Or (between_or_empty (pos 1) (pos 2)) (between_or_empty (pos 4) (pos 4)) char ≡ between_or_empty (pos 0) (pos 7)
unfolding between_or_empty char count_leading_zeros
disjunction_is = refl

disjunction_least : binary_result Or char (pos 1) (pos 4) ≡ Some (pos 5)
unfolding char
disjunction_least = refl

-- 1 to 100, shifted by 1: results are even, and 128 is not of the type
shift_is : interval_arith Shl (between_or_empty (pos 1) (pos 100)) (between_or_empty (pos 1) (pos 1)) char ≡ between_or_empty (pos 2) (pos 127)
unfolding between_or_empty char
shift_is = refl

shift_greatest : binary_result Shl char (pos 63) (pos 1) ≡ Some (pos 126)
unfolding char
shift_greatest = refl

-- Worked rows of numbers that are not of the type: the machine gives some for them, and a result has numbers of the type
-- alone. So that a result stands for what the machine gives asks that the left operand is of the type.
use Rattle.std.specs.Prelude.{◌≡◌, pos, negsuc, true, Some, refl}
use Rattle.cc_base.specs.MachineArithmetic.{binary_result, unary_result}
use Rattle.cc_base.specs.declared.int_types.IntType.{IntType}
use Rattle.cc_base.specs.declared.integer_operators.IntOp.TheVariants.{Rem, Shr}
use Rattle.cc_base.specs.declared.integer_operators.UnOp.TheVariants.{Compl}
use Rattle.interval_domain.specs.declared.intervals.intervals.Interval.{Interval}
use Rattle.interval_domain.specs.declared.intervals.intervals.Interval.TheVariants.{Bottom}
use Rattle.interval_domain.specs.Intervals.Spans.{between_or_empty}
use Rattle.interval_domain.specs.Intervals.Arithmetic.{interval_arith, interval_unary}

int : IntType
int = record { bytes = 4; signed = true; rank = 3 }

-- 3000000000 is no number of a signed type of four bytes
far : Interval
far = between_or_empty (pos 3000000000) (pos 3000000000)

one : Interval
one = between_or_empty (pos 1) (pos 1)

farther : Interval
farther = between_or_empty (pos 4000000000) (pos 4000000000)

complement_comes : unary_result Compl int (pos 3000000000) ≡ Some (negsuc 3000000000)
unfolding int
complement_comes = refl

complement_is_none : interval_unary Compl far int ≡ Bottom
unfolding between_or_empty far int
complement_is_none = refl

remainder_comes : binary_result Rem int (pos 3000000000) (pos 4000000000) ≡ Some (pos 3000000000)
unfolding int
remainder_comes = refl

remainder_is_none : interval_arith Rem far farther int ≡ Bottom
unfolding between_or_empty far farther int
remainder_is_none = refl

shift_comes : binary_result Shr int (pos 6000000000) (pos 1) ≡ Some (pos 3000000000)
unfolding int
shift_comes = refl

shift_is_none : interval_arith Shr (between_or_empty (pos 6000000000) (pos 6000000000)) one int ≡ Bottom
unfolding between_or_empty one int
shift_is_none = refl

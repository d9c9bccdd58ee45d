-- Worked rows of `&`, `|` and `^` on numbers that are not all of the type: where an operand grows, the result does.
use Rattle.std.specs.Prelude.{◌≡◌, ◌^◌, ◌-◌, pos, negsuc, true, false, refl}
use Rattle.cc_base.specs.declared.int_types.IntType.{IntType}
use Rattle.cc_base.specs.declared.integer_operators.IntOp.TheVariants.{And, Or, Xor}
use Rattle.interval_domain.specs.declared.intervals.intervals.Interval.{Interval}
use Rattle.interval_domain.specs.Intervals.Spans.{between_or_empty}
use Rattle.interval_domain.specs.Intervals.IntervalOrder.{interval_leq}
use Rattle.interval_domain.specs.Intervals.Arithmetic.{interval_arith, whole}

int : IntType
int = record { bytes = 4; signed = true; rank = 3 }

-- 3000000000 is no number of a signed type of four bytes
far : Interval
far = between_or_empty (pos 3000000000) (pos 3000000000)

farther : Interval
farther = between_or_empty (pos 3000000000) (pos 3000000001)

one : Interval
one = between_or_empty (pos 1) (pos 1)

far_or_one : interval_arith Or far one int ≡ whole int
unfolding between_or_empty far farther one int
far_or_one = refl

farther_or_one : interval_arith Or farther one int ≡ whole int
unfolding between_or_empty far farther one int
farther_or_one = refl

far_and_one : interval_arith And far one int ≡ whole int
unfolding between_or_empty far farther one int
far_and_one = refl

farther_and_one : interval_arith And farther one int ≡ whole int
unfolding between_or_empty far farther one int
farther_and_one = refl

far_xor_one : interval_arith Xor one far int ≡ whole int
unfolding between_or_empty far farther one int
far_xor_one = refl

farther_xor_one : interval_arith Xor one farther int ≡ whole int
unfolding between_or_empty far farther one int
farther_xor_one = refl

-- numbers of the type keep their least results
five_or_one : interval_arith Or (between_or_empty (pos 4) (pos 4)) one int ≡ between_or_empty (pos 5) (pos 5)
unfolding between_or_empty one int
five_or_one = refl

up_to_one : interval_arith And (between_or_empty (pos 4) (pos 5)) one int ≡ between_or_empty (pos 0) (pos 1)
unfolding between_or_empty one int
up_to_one = refl

-- Which results of the operators are the best ones: the least interval that has each number that the machine gives for
-- numbers of the operands.
use Rattle.std.specs.Prelude.{◌≡◌, ℤ, pos, ◌*ℤ◌, Bool, true, ◌&&◌, int_div, List}
use Rattle.cc_base.specs.IntegerTypes.{is_size, in_type}
use Rattle.cc_base.specs.MachineArithmetic.{binary_result, unary_result}
use Rattle.cc_base.specs.declared.int_types.IntType.{IntType}
use Rattle.cc_base.specs.declared.integer_operators.IntOp.{IntOp}
use Rattle.cc_base.specs.declared.integer_operators.IntOp.TheVariants.{Add, Sub, Mul, Div, Rem, And, Or, Xor, Shl, Shr}
use Rattle.cc_base.specs.declared.integer_operators.UnOp.TheVariants.{Compl}
use Rattle.interval_domain.specs.declared.intervals.spans.Span.{Span}
use Rattle.interval_domain.specs.declared.intervals.intervals.Interval.TheVariants.{Of}
use Rattle.interval_domain.specs.Intervals.Spans.{Stands}
use Rattle.interval_domain.specs.Intervals.IntervalOrder.{interval_leq}
use Rattle.interval_domain.specs.Intervals.IntervalRound.{interval_round, interval_within, rounded_span}
use Rattle.interval_domain.specs.Numbers.Nearest.{Has}
use Rattle.interval_domain.specs.Intervals.Arithmetic.{is_of_type, are_single, arith_spans, unary_span}
use Rattle.interval_domain.specs.Intervals.Best.{IsLeastWith, GivesOfTwo, GivesOf}

-- the operands have numbers of the type alone; the count of a shift may be of any type
abbrev pub are_operands : IntOp → IntType → Span → Span → Bool
are_operands Add k s t = is_of_type k s && is_of_type k t
are_operands Sub k s t = is_of_type k s && is_of_type k t
are_operands Mul k s t = is_of_type k s && is_of_type k t
are_operands Div k s t = is_of_type k s && is_of_type k t
are_operands Rem k s t = is_of_type k s && is_of_type k t
are_operands And k s t = is_of_type k s && is_of_type k t
are_operands Or k s t = is_of_type k s && is_of_type k t
are_operands Xor k s t = is_of_type k s && is_of_type k t
are_operands Shl k s t = is_of_type k s
are_operands Shr k s t = is_of_type k s

abbrev pub IsBest : IntOp → IntType → Span → Span → Type 0
IsBest op k s t = IsLeastWith (GivesOfTwo (binary_result op k) s t) (arith_spans op k s t)

pub record AreBest : Type 0 where
  -- of two single numbers
  pub single_numbers : (op : IntOp) (k : IntType) (s t : Span) → is_size k.bytes ≡ true → are_single s t ≡ true → are_operands op k s t ≡ true → IsBest op k s t
  -- products that are all of the type
  pub products : (k : IntType) (s t : Span) → is_size k.bytes ≡ true → ((a b : ℤ) → Stands (Of s) a → Stands (Of t) b → in_type k (a *ℤ b) ≡ true) → IsBest Mul k s t
  -- quotients that are all of the type
  pub quotients : (k : IntType) (s t : Span) → ((a b : ℤ) → Stands (Of s) a → Stands (Of t) b → (b ≡ pos 0 → ⊥) → in_type k (int_div a b) ≡ true) → IsBest Div k s t
  pub right_shifts : (k : IntType) (s t : Span) → is_size k.bytes ≡ true → is_of_type k s ≡ true → IsBest Shr k s t
  pub complements : (k : IntType) (s : Span) → is_size k.bytes ≡ true → is_of_type k s ≡ true → IsLeastWith (GivesOf (unary_result Compl k) s) (unary_span Compl k s)

-- rounding leaves an interval whose bounds stand in the list, and gives the least one with such bounds
pub record RoundsToLeast : Type 0 where
  pub kept : (list : List ℤ) (s : Span) → Has list s.lo → Has list s.hi → interval_round list (Of s) ≡ Of s
  pub least : (list : List ℤ) (s t : Span) → Has list t.lo → Has list t.hi → interval_leq (Of s) (Of t) ≡ true → interval_leq (interval_round list (Of s)) (Of t) ≡ true
  pub listed : (list : List ℤ) (s : Span) → interval_within list (Of s) ≡ true → Has list (rounded_span list s).lo × Has list (rounded_span list s).hi

-- Operators on integers, and conversions (6.3.1.3, 6.5.3.3, 6.5.5 to 6.5.14).
use Rattle.std.specs.Prelude.{◌^◌, ℤ, pos, neg_ℤ, ◌+ℤ◌, ◌-ℤ◌, ◌*ℤ◌, unsigned_abs, int_lt, Bool, false, not, cond, ◌&&◌, ◌||◌, List, [], ◌∷◌, ◌++◌, Option, Some, None}
use Rattle.std.specs.Ordering.{int_eq}
use Rattle.cc_base.specs.IntegerTypes.{in_type, wrap_into}
use Rattle.cc_base.specs.MachineArithmetic.{binary_result, unary_result, holds, is_count, is_quotient_overflow}
use Rattle.cc_base.specs.declared.int_types.IntType.{IntType}
use Rattle.cc_base.specs.declared.integer_operators.IntOp.{IntOp}
use Rattle.cc_base.specs.declared.integer_operators.IntOp.TheVariants.{Add, Sub, Mul, Div, Rem, Shl}
use Rattle.cc_base.specs.declared.integer_operators.UnOp.{UnOp}
use Rattle.cc_base.specs.declared.integer_operators.UnOp.TheVariants.{Neg, Compl}
use Rattle.cc_base.specs.declared.integer_operators.Rel.{Rel}
use Rattle.cc_base.specs.declared.diagnostics.Rule.{Rule}
use Rattle.cc_base.specs.declared.diagnostics.Rule.TheVariants as rule
use Rattle.cfg.specs.declared.machine_instructions.Scalar.TheVariants as of
use Rattle.cfg.specs.declared.machine_instructions.Scalar as declared
use Rattle.memory_model.specs.Memory.Labels.{Labels, no_labels, converted_labels, operated_labels, negated_labels}
use Rattle.memory_model.specs.Memory.Bytes.{null}
use Rattle.memory_model.specs.Memory.Scalars.{Scalar, integer, pointer, is_false}
use Rattle.memory_model.specs.Effects.Worlds.{World, Why, Violated, Left, Stuck, Reply, goes, stops, violating}
use Rattle.memory_model.specs.Effects.Operands.{with_number}

-- 0 or 1
abbrev pub truth : Bool → Scalar
truth b = integer (cond b (pos 1) (pos 0)) no_labels

-- the 1 of `++` and `--` has no label
abbrev pub plain_one : Scalar
plain_one = integer (pos 1) no_labels

-- ---- the mathematical result, of the operators that can leave the type

abbrev pub result_of : IntOp → ℤ → ℤ → Option ℤ
result_of Add a b = Some (a +ℤ b)
result_of Sub a b = Some (a -ℤ b)
result_of Mul a b = Some (a *ℤ b)
result_of Shl a b = Some (a *ℤ pos (2 ^ unsigned_abs b))
result_of _ a b = None

abbrev pub is_outside : IntType → Option ℤ → Bool
is_outside kind None = false
is_outside kind (Some n) = not (in_type kind n)

abbrev pub fault_if : Bool → Rule → List Rule
fault_if violated r = cond violated (r ∷ []) []

-- a division by 0, or a quotient that its type has not
abbrev pub division_faults : IntType → ℤ → ℤ → List Rule
division_faults kind a b = fault_if (int_eq b (pos 0) || is_quotient_overflow kind a b) rule.Diverr ++ fault_if (is_quotient_overflow kind a b) rule.Intoflow

-- a left shift of a negative number, whatever the count, and a result outside the type
abbrev pub shift_faults : IntType → ℤ → ℤ → List Rule
shift_faults kind a b = fault_if (kind.signed && (int_lt a (pos 0) || (is_count kind b && is_outside kind (result_of Shl a b)))) rule.Intoflow

abbrev pub overflow_faults : IntType → Option ℤ → List Rule
overflow_faults kind result = fault_if (kind.signed && is_outside kind result) rule.Intoflow

abbrev pub binary_faults : IntOp → IntType → ℤ → ℤ → List Rule
binary_faults Div kind a b = division_faults kind a b
binary_faults Rem kind a b = division_faults kind a b
binary_faults Shl kind a b = shift_faults kind a b
binary_faults op kind a b = overflow_faults kind (result_of op a b)

-- without a fault there is no result where a shift's count is undefined
abbrev pub why_none : List Rule → Why
why_none [] = Left
why_none (r ∷ rs) = Violated

-- the run goes on with a result that there is
abbrev pub computed : List Rule → Option ℤ → Labels → World → Reply Scalar
computed faults None labels w = stops (why_none faults) (violating w faults)
computed faults (Some n) labels w = goes (integer n labels) (violating w faults)

abbrev pub binary_numbers : IntOp → IntType → ℤ → Labels → ℤ → Labels → World → Reply Scalar
binary_numbers op kind a s b t w = computed (binary_faults op kind a b) (binary_result op kind a b) (operated_labels op s t kind (is_outside kind (result_of op a b))) w

abbrev pub binary : IntOp → IntType → Scalar → Scalar → World → Reply Scalar
binary op kind left right w = with_number left w (λ a s w. with_number right w (λ b t w. binary_numbers op kind a s b t w))

abbrev pub unary_math : UnOp → ℤ → Option ℤ
unary_math Neg a = Some (neg_ℤ a)
unary_math Compl a = None

abbrev pub unary_number : UnOp → IntType → ℤ → Labels → World → Reply Scalar
unary_number op kind a s w = computed (overflow_faults kind (unary_math op a)) (unary_result op kind a) (negated_labels op s kind (is_outside kind (unary_math op a))) w

abbrev pub unary : UnOp → IntType → Scalar → World → Reply Scalar
unary op kind operand w = with_number operand w (unary_number op kind)

abbrev pub compare_numbers : Rel → Scalar → Scalar → World → Reply Scalar
compare_numbers rel left right w = with_number left w (λ a s w. with_number right w (λ b t w. goes (truth (holds rel a b)) w))

abbrev pub negation : Scalar → World → Reply Scalar
negation v w = goes (truth (is_false v)) w

-- ---- conversions

abbrev pub as_integer : IntType → ℤ → Labels → Scalar
as_integer kind n labels = integer (wrap_into kind n) (converted_labels labels kind (in_type kind n))

-- a null pointer constant becomes a null pointer (6.3.2.3)
abbrev pub pointer_from : Scalar → World → Reply Scalar
pointer_from (integer n labels) w = cond (int_eq n (pos 0)) (goes (pointer null) w) (stops Stuck w)
pointer_from (pointer p) w = goes (pointer p) w

abbrev pub convert : declared.Scalar → Scalar → World → Reply Scalar
convert (of.Int kind) v w = with_number v w (λ n labels w. goes (as_integer kind n labels) w)
convert of.Pointer v w = pointer_from v w

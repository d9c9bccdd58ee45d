-- Multiplicative, additive, shift and bitwise operators (6.5.5 to 6.5.7, 6.5.10 to 6.5.12).
use Rattle.std.specs.Prelude.{ℤ, Bool, true, false, ◌&&◌, cond, Option, Some, None, Ok}
use Rattle.cc_base.specs.declared.diagnostics.Place.{Place}
use Rattle.cc_base.specs.declared.int_types.IntType.{IntType}
use Rattle.c_layout.specs.Types.{Ty, Int}
use Rattle.c_layout.specs.CheckedTrees as tree
use Rattle.c_layout.specs.declared.syntax_tree.expressions.BinaryOp.{BinaryOp}
use Rattle.c_types_rules.specs.Rules.IntegerKinds.{kind_of, promoted, common}
use Rattle.c_types_rules.specs.declared.rules.integer_kinds.Rank.TheVariants as rank
use Rattle.c_types_rules.specs.Rules.ConstantFolding.{folded, shifted}
use Rattle.c_types_scopes.specs.Known.{Known}
use Rattle.c_types_scopes.specs.Refusals.{Ruled, type_fault}
use Rattle.c_types_operands.specs.Operands.{OperandView, ValueView, node, number, term_type, term_constant}
use Rattle.c_types_operands.specs.Conversions.{integer_as}
use Rattle.c_types_operands.specs.declared.arithmetic.KindPair.{KindPair}

-- the type int
abbrev pub int_kind : Known → IntType
int_kind k = kind_of k.numbers rank.Int true

-- an integer type with that of a type, where it is one
abbrev pub kind_pair : IntType → Ty → Option KindPair
kind_pair a (Int b) = Some (record { left = a; right = b })
kind_pair a _ = None

-- the integer types of two types, where both are such
abbrev pub integer_kinds : Ty → Ty → Option KindPair
integer_kinds (Int a) t = kind_pair a t
integer_kinds _ t = None

abbrev pub folded_right : BinaryOp → IntType → ℤ → Option ℤ → Option ℤ
folded_right op kind a None = None
folded_right op kind a (Some b) = folded op kind a b

-- the value of an operator on two constants
abbrev pub folded_constant : BinaryOp → IntType → Option ℤ → Option ℤ → Option ℤ
folded_constant op kind None right = None
folded_constant op kind (Some a) right = folded_right op kind a right

abbrev pub shifted_right : BinaryOp → IntType → ℤ → Option ℤ → Option ℤ
shifted_right op kind a None = None
shifted_right op kind a (Some b) = shifted op kind a b

-- the value of a shift of two constants
abbrev pub shifted_constant : BinaryOp → IntType → Option ℤ → Option ℤ → Option ℤ
shifted_constant op kind None right = None
shifted_constant op kind (Some a) right = shifted_right op kind a right

-- an operator on two integers in their types; `to` is its result's type
abbrev pub integer_node : Known → Place → BinaryOp → KindPair → IntType → ValueView → ValueView → Option ℤ → OperandView
integer_node k at op kinds to left right constant = number (node at (Int to) (tree.Integer op (integer_as k left.term kinds.left) (integer_as k right.term kinds.right))) constant (left.fixed && right.fixed)

abbrev pub same_kinds : IntType → KindPair
same_kinds kind = record { left = kind; right = kind }

-- the type of the result of an operator on integers of a type: a comparison gives an int
abbrev pub result_kind : Known → Bool → IntType → IntType
result_kind k is_int kind = cond is_int (int_kind k) kind

-- an operator on two integers in a type
abbrev pub in_kind : Known → Place → BinaryOp → Bool → IntType → ValueView → ValueView → OperandView
in_kind k at op is_int kind left right = integer_node k at op (same_kinds kind) (result_kind k is_int kind) left right (folded_constant op kind (term_constant left.term) (term_constant right.term))

-- an operator on two integers in their common type
abbrev pub in_common_kind : Known → Place → BinaryOp → Bool → KindPair → ValueView → ValueView → OperandView
in_common_kind k at op is_int kinds left right = in_kind k at op is_int (common k.numbers kinds.left kinds.right) left right

abbrev pub integer_operation_by : Known → Place → BinaryOp → ValueView → ValueView → Option KindPair → Ruled OperandView
integer_operation_by k at op left right None = type_fault at
integer_operation_by k at op left right (Some kinds) = Ok (in_common_kind k at op false kinds left right)

abbrev pub value_kinds : ValueView → ValueView → Option KindPair
value_kinds left right = integer_kinds (term_type left.term) (term_type right.term)

-- an operator on two integers whose result has their common type
abbrev pub integer_operation : Known → Place → BinaryOp → ValueView → ValueView → Ruled OperandView
integer_operation k at op left right = integer_operation_by k at op left right (value_kinds left right)

abbrev pub promoted_kinds : Known → KindPair → KindPair
promoted_kinds k kinds = record { left = promoted k.numbers kinds.left; right = promoted k.numbers kinds.right }

-- each operand of a shift in its type
abbrev pub shift_in : Known → Place → BinaryOp → KindPair → ValueView → ValueView → OperandView
shift_in k at op kinds left right = integer_node k at op kinds kinds.left left right (shifted_constant op kinds.left (term_constant left.term) (term_constant right.term))

abbrev pub shift_by : Known → Place → BinaryOp → ValueView → ValueView → Option KindPair → Ruled OperandView
shift_by k at op left right None = type_fault at
shift_by k at op left right (Some kinds) = Ok (shift_in k at op (promoted_kinds k kinds) left right)

-- `<<` or `>>`: each operand is promoted, and the result has the left one's type
abbrev pub shift_operation : Known → Place → BinaryOp → ValueView → ValueView → Ruled OperandView
shift_operation k at op left right = shift_by k at op left right (value_kinds left right)

-- Relations, equalities, and the operators between two operands by groups (6.5.5 to 6.5.12).
use Rattle.std.specs.Prelude.{ℕ, true, Option, Some, None, Ok}
use Rattle.cc_base.specs.declared.diagnostics.Place.{Place}
use Rattle.c_layout.specs.Types.{Int}
use Rattle.c_layout.specs.CheckedTrees as tree
use Rattle.c_layout.specs.CheckedTrees.{TermTree}
use Rattle.c_layout.specs.declared.syntax_tree.expressions.BinaryOp.{BinaryOp}
use Rattle.c_layout.specs.declared.syntax_tree.expressions.BinaryOp.TheVariants as op
use Rattle.c_types_rules.specs.Rules.TypeConversions.{paired_types}
use Rattle.c_types_rules.specs.declared.rules.type_conversions.Pairing.{Pairing}
use Rattle.c_types_rules.specs.declared.rules.type_conversions.Pairing.TheVariants as pair
use Rattle.c_types_scopes.specs.Known.{Known}
use Rattle.c_types_scopes.specs.Refusals.{Ruled, type_fault, pointer_integer}
use Rattle.c_types_operands.specs.Operands.{OperandView, ValueView, node, plain, value_of, term_type, is_null}
use Rattle.c_types_operands.specs.Conversions.{in_type}
use Rattle.c_types_operands.specs.Arithmetic.{int_kind, value_kinds, in_common_kind, integer_operation, shift_operation}
use Rattle.c_types_operands.specs.PointerArithmetic.{common_target, additive}
use Rattle.c_types_operands.specs.declared.arithmetic.KindPair.{KindPair}
use Rattle.c_types_operands.specs.declared.comparisons.BinaryGroup.{BinaryGroup}
use Rattle.c_types_operands.specs.declared.comparisons.BinaryGroup.TheVariants as group

-- a comparison of two pointers
abbrev pub pointer_comparison : Known → Place → BinaryOp → TermTree → TermTree → OperandView
pointer_comparison k at sign left right = plain (node at (Int (int_kind k)) (tree.Compare sign left right))

abbrev pub pointer_relation_by : Known → Place → BinaryOp → TermTree → TermTree → Option ℕ → Ruled OperandView
pointer_relation_by k at sign left right None = type_fault at
pointer_relation_by k at sign left right (Some size) = Ok (pointer_comparison k at sign left right)

-- a relation of two pointers to one complete type
abbrev pub pointer_relation : Known → Place → BinaryOp → TermTree → TermTree → Ruled OperandView
pointer_relation k at sign left right = pointer_relation_by k at sign left right (common_target k (term_type left) (term_type right))

abbrev pub relation_by : Known → Place → BinaryOp → ValueView → ValueView → Option KindPair → Ruled OperandView
relation_by k at sign left right (Some kinds) = Ok (in_common_kind k at sign true kinds left right)
relation_by k at sign left right None = pointer_relation k at sign left.term right.term

-- `<`, `>`, `<=` or `>=`: two integers, or two pointers to one complete type
abbrev pub relation : Known → Place → BinaryOp → ValueView → ValueView → Ruled OperandView
relation k at sign left right = relation_by k at sign left right (value_kinds left right)

-- how two values come to one type
abbrev pub pairing : TermTree → TermTree → Pairing
pairing left right = paired_types (term_type left) (is_null left) (term_type right) (is_null right)

abbrev pub pointer_equality_by : Known → Place → BinaryOp → TermTree → TermTree → Pairing → Ruled OperandView
pointer_equality_by k at sign left right pair.AsLeft = Ok (pointer_comparison k at sign left (in_type k right (term_type left)))
pointer_equality_by k at sign left right pair.AsRight = Ok (pointer_comparison k at sign (in_type k left (term_type right)) right)
pointer_equality_by k at sign left right pair.Crosses = pointer_integer at
pointer_equality_by k at sign left right pair.Integers = type_fault at
pointer_equality_by k at sign left right pair.Apart = type_fault at

-- an equality of two pointers that come to one type
abbrev pub pointer_equality : Known → Place → BinaryOp → TermTree → TermTree → Ruled OperandView
pointer_equality k at sign left right = pointer_equality_by k at sign left right (pairing left right)

abbrev pub equality_by : Known → Place → BinaryOp → ValueView → ValueView → Option KindPair → Ruled OperandView
equality_by k at sign left right (Some kinds) = Ok (in_common_kind k at sign true kinds left right)
equality_by k at sign left right None = pointer_equality k at sign left.term right.term

-- `==` or `!=`
abbrev pub equality : Known → Place → BinaryOp → ValueView → ValueView → Ruled OperandView
equality k at sign left right = equality_by k at sign left right (value_kinds left right)

-- the operators by their rules
abbrev pub group_of : BinaryOp → BinaryGroup
group_of op.Multiply = group.Integers
group_of op.Divide = group.Integers
group_of op.Remainder = group.Integers
group_of op.And = group.Integers
group_of op.Xor = group.Integers
group_of op.Or = group.Integers
group_of op.Add = group.Additive
group_of op.Subtract = group.Additive
group_of op.ShiftLeft = group.Shift
group_of op.ShiftRight = group.Shift
group_of op.Less = group.Relation
group_of op.Greater = group.Relation
group_of op.LessEqual = group.Relation
group_of op.GreaterEqual = group.Relation
group_of op.Equal = group.Equality
group_of op.NotEqual = group.Equality

abbrev pub binary_by : Known → Place → BinaryOp → ValueView → ValueView → BinaryGroup → Ruled OperandView
binary_by k at sign left right group.Integers = integer_operation k at sign left right
binary_by k at sign left right group.Additive = additive k at sign left right
binary_by k at sign left right group.Shift = shift_operation k at sign left right
binary_by k at sign left right group.Relation = relation k at sign left right
binary_by k at sign left right group.Equality = equality k at sign left right

abbrev pub between_values : Known → Place → BinaryOp → ValueView → ValueView → Ruled OperandView
between_values k at sign left right = binary_by k at sign left right (group_of sign)

-- an operator between two operands
abbrev pub binary : Known → Place → BinaryOp → OperandView → OperandView → Ruled OperandView
binary k at sign left right = between_values k at sign (value_of left) (value_of right)

-- `&&`, `||`, `?:` and the comma operator (6.5.13 to 6.5.15, 6.5.17).
use Rattle.std.specs.Prelude.{ℕ, ℤ, pos, Bool, true, false, ◌&&◌, cond, Option, Some, None, Ok}
use Rattle.std.specs.Ordering.{int_eq}
use Rattle.cc_base.specs.declared.diagnostics.Place.{Place}
use Rattle.cc_base.specs.declared.int_types.IntType.{IntType}
use Rattle.c_layout.specs.Types.{Ty, Int, Void}
use Rattle.c_layout.specs.CheckedTrees as tree
use Rattle.c_layout.specs.CheckedTrees.{TermTree, LvalueTree, term_tree}
use Rattle.c_layout.specs.declared.syntax_tree.expressions.LogicalOp.{LogicalOp}
use Rattle.c_layout.specs.declared.syntax_tree.expressions.LogicalOp.TheVariants as op
use Rattle.c_types_rules.specs.Rules.IntegerKinds.{common}
use Rattle.c_types_rules.specs.Rules.ConstantFolding.{converted}
use Rattle.c_types_rules.specs.declared.rules.type_conversions.Pairing.{Pairing}
use Rattle.c_types_rules.specs.declared.rules.type_conversions.Pairing.TheVariants as pair
use Rattle.c_types_scopes.specs.Known.{Known}
use Rattle.c_types_scopes.specs.Refusals.{Ruled, type_fault, pointer_integer}
use Rattle.c_types_operands.specs.Operands.{OperandView, OperandForm, AsValue, AsLvalue, ValueView, node, plain, number, lvalue, value_of, term_of, lvalue_value, lvalue_type, term_type, term_constant, is_scalar, is_void, is_struct}
use Rattle.c_types_operands.specs.Conversions.{in_type, integer_as, unused}
use Rattle.c_types_operands.specs.Arithmetic.{int_kind, integer_kinds}
use Rattle.c_types_operands.specs.Comparisons.{pairing}
use Rattle.c_types_operands.specs.declared.arithmetic.KindPair.{KindPair}
use Rattle.c_types_operators.specs.declared.choices.Choice.{Choice}

-- 1 where a number is not 0
abbrev pub truth_of : ℤ → ℤ
truth_of n = cond (int_eq n (pos 0)) (pos 0) (pos 1)

abbrev pub truth_if : Option ℤ → Option ℤ
truth_if None = None
truth_if (Some n) = Some (truth_of n)

-- the value of `&&` on constants: the right one counts only where the left one is not 0
abbrev pub and_value : Option ℤ → Option ℤ → Option ℤ
and_value None right = None
and_value (Some n) right = cond (int_eq n (pos 0)) (Some (pos 0)) (truth_if right)

-- the value of `||` on constants: the right one counts only where the left one is 0
abbrev pub or_value : Option ℤ → Option ℤ → Option ℤ
or_value None right = None
or_value (Some n) right = cond (int_eq n (pos 0)) (truth_if right) (Some (pos 1))

abbrev pub logical_value : LogicalOp → Option ℤ → Option ℤ → Option ℤ
logical_value op.And left right = and_value left right
logical_value op.Or left right = or_value left right

abbrev pub are_scalars : Ty → Ty → Bool
are_scalars t u = cond (is_scalar t) (is_scalar u) false

abbrev pub logical_node : Known → Place → LogicalOp → ValueView → ValueView → OperandView
logical_node k at sign left right = number (node at (Int (int_kind k)) (tree.Logical sign left.term right.term)) (logical_value sign (term_constant left.term) (term_constant right.term)) (left.fixed && right.fixed)

abbrev pub logical_of : Known → Place → LogicalOp → ValueView → ValueView → Ruled OperandView
logical_of k at sign left right = cond (are_scalars (term_type left.term) (term_type right.term)) (Ok (logical_node k at sign left right)) (type_fault at)

-- `&&` or `||` of two scalars
abbrev pub logical : Known → Place → LogicalOp → OperandView → OperandView → Ruled OperandView
logical k at sign left right = logical_of k at sign (value_of left) (value_of right)

-- ---- the conditional operator

-- its three operands, and whether each has the form of a constant expression
pub record ChoiceView : Type 0 where
  pub condition : TermTree
  pub first : TermTree
  pub second : TermTree
  pub fixed : Bool

abbrev pub choice_view : Choice → ChoiceView
choice_view c = record { condition = term_tree c.condition.value; first = term_tree c.first.value; second = term_tree c.second.value; fixed = c.fixed }

abbrev pub converted_if : IntType → Option ℤ → Option ℤ
converted_if kind None = None
converted_if kind (Some n) = Some (converted kind n)

-- the value on integer constants: that of the arm that is chosen, in the common type
abbrev pub chosen : IntType → Option ℤ → Option ℤ → Option ℤ → Option ℤ
chosen kind None first second = None
chosen kind (Some n) first second = cond (int_eq n (pos 0)) (converted_if kind second) (converted_if kind first)

-- integers of a common type as arms
abbrev pub integer_choice : Known → Place → IntType → ChoiceView → OperandView
integer_choice k at kind c = number (node at (Int kind) (tree.Conditional c.condition (integer_as k c.first kind) (integer_as k c.second kind))) (chosen kind (term_constant c.condition) (term_constant c.first) (term_constant c.second)) c.fixed

-- arms of one type
abbrev pub plain_choice : Place → TermTree → TermTree → TermTree → OperandView
plain_choice at condition first second = plain (node at (term_type first) (tree.Conditional condition first second))

abbrev pub paired_choice : Known → Place → ChoiceView → Pairing → Ruled OperandView
paired_choice k at c pair.AsLeft = Ok (plain_choice at c.condition c.first (in_type k c.second (term_type c.first)))
paired_choice k at c pair.AsRight = Ok (plain_choice at c.condition (in_type k c.first (term_type c.second)) c.second)
paired_choice k at c pair.Crosses = pointer_integer at
paired_choice k at c pair.Integers = type_fault at
paired_choice k at c pair.Apart = type_fault at

abbrev pub paired_choice_of : Known → Place → ChoiceView → Ruled OperandView
paired_choice_of k at c = paired_choice k at c (pairing c.first c.second)

abbrev pub are_void : Ty → Ty → Bool
are_void t u = cond (is_void t) (is_void u) false

-- arms that are not both integers
abbrev pub other_choice : Known → Place → ChoiceView → Ruled OperandView
other_choice k at c = cond (are_void (term_type c.first) (term_type c.second)) (Ok (plain_choice at c.condition c.first c.second)) (paired_choice_of k at c)

abbrev pub choice_by : Known → Place → ChoiceView → Option KindPair → Ruled OperandView
choice_by k at c (Some kinds) = Ok (integer_choice k at (common k.numbers kinds.left kinds.right) c)
choice_by k at c None = other_choice k at c

abbrev pub scalar_choice : Known → Place → ChoiceView → Ruled OperandView
scalar_choice k at c = choice_by k at c (integer_kinds (term_type c.first) (term_type c.second))

abbrev pub choice_of : Known → Place → ChoiceView → Ruled OperandView
choice_of k at c = cond (is_scalar (term_type c.condition)) (scalar_choice k at c) (type_fault at)

abbrev pub choice_from : ValueView → ValueView → ValueView → ChoiceView
choice_from c a b = record { condition = c.term; first = a.term; second = b.term; fixed = c.fixed && (a.fixed && b.fixed) }

abbrev pub conditional_with : Known → Place → ValueView → OperandView → OperandView → Ruled OperandView
conditional_with k at c a b = choice_of k at (choice_from c (value_of a) (value_of b))

-- `?:` of a scalar and two arms
abbrev pub conditional : Known → Place → OperandView → OperandView → OperandView → Ruled OperandView
conditional k at c a b = conditional_with k at (value_of c) a b

-- ---- the comma operator

abbrev pub value_comma : Place → TermTree → TermTree → OperandView
value_comma at first second = plain (node at (term_type second) (tree.Comma first second))

abbrev pub struct_comma : Place → TermTree → LvalueTree → OperandView
struct_comma at first second = lvalue (tree.Designates at (lvalue_type second) 0 (tree.Then first second)) None

-- the last operand is an lvalue
abbrev pub lvalue_comma : Place → TermTree → LvalueTree → OperandView
lvalue_comma at first second = cond (is_struct (lvalue_type second)) (struct_comma at first second) (value_comma at first (lvalue_value second))

abbrev pub comma_with : Place → TermTree → OperandForm → OperandView
comma_with at first (AsLvalue l) = lvalue_comma at first l
comma_with at first (AsValue e) = value_comma at first e

-- a comma expression
abbrev pub comma : Place → OperandView → OperandView → OperandView
comma at first second = comma_with at (unused (term_of first)) second.form

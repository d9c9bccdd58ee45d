-- Unary operators, `++` and `--` (6.5.2.4, 6.5.3.1 to 6.5.3.3).
use Rattle.std.specs.Prelude.{ℕ, ℤ, pos, Bool, cond, Option, Some, None, Ok}
use Rattle.std.specs.Ordering.{int_eq}
use Rattle.cc_base.specs.declared.diagnostics.Place.{Place}
use Rattle.cc_base.specs.declared.int_types.IntType.{IntType}
use Rattle.c_layout.specs.Types.{Ty, Int, Pointer}
use Rattle.c_layout.specs.CheckedTrees as tree
use Rattle.c_layout.specs.CheckedTrees.{TermTree, LvalueTree}
use Rattle.c_layout.specs.declared.syntax_tree.expressions.StepOp.{StepOp}
use Rattle.c_layout.specs.declared.syntax_tree.expressions.UnaryOp.{UnaryOp}
use Rattle.c_layout.specs.declared.syntax_tree.expressions.UnaryOp.TheVariants as op
use Rattle.c_layout.specs.declared.checked_tree.checked_terms.StepTime.{StepTime}
use Rattle.c_types_rules.specs.Rules.IntegerKinds.{promoted}
use Rattle.c_types_rules.specs.Rules.ConstantFolding.{converted, negated, complemented}
use Rattle.c_types_scopes.specs.Known.{Known, size_of}
use Rattle.c_types_scopes.specs.Refusals.{Ruled, type_fault}
use Rattle.c_types_operands.specs.Operands.{OperandView, ValueView, node, plain, number, value_of, term_of, own_lvalue, lvalue_type, term_type, term_constant, is_scalar}
use Rattle.c_types_operands.specs.Conversions.{integer_as}
use Rattle.c_types_operands.specs.Arithmetic.{int_kind}
use Rattle.c_types_operands.specs.Indirections.{indirection}
use Rattle.c_types_operators.specs.declared.unary_operators.StepKind.{StepKind}
use Rattle.c_types_operators.specs.declared.unary_operators.StepKind.TheVariants as step_kinds

abbrev pub pointer_kind : Option ℕ → Option StepKind
pointer_kind None = None
pointer_kind (Some size) = Some (step_kinds.Pointer size)

-- how an lvalue of a type steps: an integer in its promoted type, a pointer by its element
abbrev pub step_kind : Known → Ty → Option StepKind
step_kind k (Int kind) = Some (step_kinds.Integer (promoted k.numbers kind))
step_kind k (Pointer t) = pointer_kind (size_of k t)
step_kind k _ = None

abbrev pub integer_step : Place → StepOp → StepTime → IntType → LvalueTree → OperandView
integer_step at sign time kind l = plain (node at (lvalue_type l) (tree.Step sign time (Int kind) l))

abbrev pub pointer_step : Place → StepOp → StepTime → ℕ → LvalueTree → OperandView
pointer_step at sign time size l = plain (node at (lvalue_type l) (tree.StepPointer sign time size l))

abbrev pub step_by : Place → StepOp → StepTime → LvalueTree → Option StepKind → Ruled OperandView
step_by at sign time l None = type_fault at
step_by at sign time l (Some (step_kinds.Integer kind)) = Ok (integer_step at sign time kind l)
step_by at sign time l (Some (step_kinds.Pointer size)) = Ok (pointer_step at sign time size l)

abbrev pub lvalue_step : Known → Place → StepOp → StepTime → LvalueTree → Ruled OperandView
lvalue_step k at sign time l = step_by at sign time l (step_kind k (lvalue_type l))

abbrev pub step_of : Known → Place → StepOp → StepTime → Option LvalueTree → Ruled OperandView
step_of k at sign time None = type_fault at
step_of k at sign time (Some l) = lvalue_step k at sign time l

-- `++` or `--`, before or behind its operand
abbrev pub step : Known → Place → StepOp → StepTime → OperandView → Ruled OperandView
step k at sign time o = step_of k at sign time (own_lvalue o)

abbrev pub address_of : Place → Option LvalueTree → Ruled OperandView
address_of at None = type_fault at
address_of at (Some l) = Ok (plain (node at (Pointer (lvalue_type l)) (tree.AddressOf l)))

-- `&`
abbrev pub address : Place → OperandView → Ruled OperandView
address at o = address_of at (own_lvalue o)

-- the promoted type of an integer type
abbrev pub promoted_kind : Known → Ty → Option IntType
promoted_kind k (Int kind) = Some (promoted k.numbers kind)
promoted_kind k _ = None

abbrev pub negated_if : IntType → Option ℤ → Option ℤ
negated_if kind None = None
negated_if kind (Some n) = negated kind n

abbrev pub complemented_if : IntType → Option ℤ → Option ℤ
complemented_if kind None = None
complemented_if kind (Some n) = Some (complemented kind n)

abbrev pub converted_if : IntType → Option ℤ → Option ℤ
converted_if kind None = None
converted_if kind (Some n) = Some (converted kind n)

-- `+`, `-` or `~` of a promoted term
abbrev pub turned : Place → UnaryOp → IntType → TermTree → TermTree
turned at op.Minus kind e = node at (Int kind) (tree.Minus e)
turned at op.Complement kind e = node at (Int kind) (tree.Complement e)
turned at _ kind e = node at (Int kind) (tree.Plus e)

abbrev pub turned_value : UnaryOp → IntType → Option ℤ → Option ℤ
turned_value op.Minus kind constant = negated_if kind constant
turned_value op.Complement kind constant = complemented_if kind constant
turned_value _ kind constant = converted_if kind constant

abbrev pub turned_operand : Place → UnaryOp → IntType → TermTree → Option ℤ → Bool → OperandView
turned_operand at sign kind e constant fixed = number (turned at sign kind e) constant fixed

abbrev pub arithmetic_in : Known → Place → UnaryOp → IntType → ValueView → OperandView
arithmetic_in k at sign kind v = turned_operand at sign kind (integer_as k v.term kind) (turned_value sign kind (term_constant v.term)) v.fixed

abbrev pub arithmetic_by : Known → Place → UnaryOp → ValueView → Option IntType → Ruled OperandView
arithmetic_by k at sign v None = type_fault at
arithmetic_by k at sign v (Some kind) = Ok (arithmetic_in k at sign kind v)

-- `+`, `-` or `~`: the operand is promoted
abbrev pub arithmetic : Known → Place → UnaryOp → ValueView → Ruled OperandView
arithmetic k at sign v = arithmetic_by k at sign v (promoted_kind k (term_type v.term))

abbrev pub is_0 : ℤ → ℤ
is_0 n = cond (int_eq n (pos 0)) (pos 1) (pos 0)

abbrev pub not_value : Option ℤ → Option ℤ
not_value None = None
not_value (Some n) = Some (is_0 n)

abbrev pub not_node : Known → Place → ValueView → OperandView
not_node k at v = number (node at (Int (int_kind k)) (tree.Not v.term)) (not_value (term_constant v.term)) v.fixed

-- `!` of a scalar
abbrev pub not_of : Known → Place → ValueView → Ruled OperandView
not_of k at v = cond (is_scalar (term_type v.term)) (Ok (not_node k at v)) (type_fault at)

-- a unary operator
abbrev pub unary : Known → Place → UnaryOp → OperandView → Ruled OperandView
unary k at op.Address o = address at o
unary k at op.Indirection o = indirection k at (term_of o)
unary k at op.Not o = not_of k at (value_of o)
unary k at op.Plus o = arithmetic k at op.Plus (value_of o)
unary k at op.Minus o = arithmetic k at op.Minus (value_of o)
unary k at op.Complement o = arithmetic k at op.Complement (value_of o)

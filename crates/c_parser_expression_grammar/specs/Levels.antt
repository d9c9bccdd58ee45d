-- The operators of expressions: their signs, and the levels at which they bind. A level stands for a
-- nonterminal of 6.5: 0 expression, 1 assignment, 2 conditional, 3 logical OR, and so on to 12
-- multiplicative, 13 cast, 14 unary, 15 postfix, 16 primary.
use Rattle.std.specs.Prelude.{ℕ, Bool, true, false, Option, Some, None}
use Rattle.c_layout.specs.declared.syntax_tree.expressions.StepOp.{StepOp}
use Rattle.c_layout.specs.declared.syntax_tree.expressions.StepOp.TheVariants as step
use Rattle.c_layout.specs.declared.syntax_tree.expressions.UnaryOp.{UnaryOp}
use Rattle.c_layout.specs.declared.syntax_tree.expressions.UnaryOp.TheVariants as unary
use Rattle.c_layout.specs.declared.syntax_tree.expressions.BinaryOp.{BinaryOp}
use Rattle.c_layout.specs.declared.syntax_tree.expressions.BinaryOp.TheVariants as binary
use Rattle.c_layout.specs.declared.syntax_tree.expressions.LogicalOp.{LogicalOp}
use Rattle.c_layout.specs.declared.syntax_tree.expressions.LogicalOp.TheVariants as logical
use Rattle.c_layout.specs.declared.syntax_tree.expressions.AssignOp.{AssignOp}
use Rattle.c_layout.specs.declared.syntax_tree.expressions.AssignOp.TheVariants as assign
use Rattle.c_parser_expression_grammar.specs.declared.operators.Infix.{Infix}
use Rattle.c_parser_expression_grammar.specs.declared.operators.Infix.TheVariants as between
use Rattle.c_parser_tokens.specs.declared.terminals.Symbol.{Symbol}
use Rattle.c_parser_tokens.specs.declared.terminals.Symbol.TheVariants as symbol
use Rattle.c_parser_tokens.specs.declared.terminals.Punctuator.{Punctuator}
use Rattle.c_parser_tokens.specs.declared.terminals.Punctuator.TheVariants as p

abbrev pub binary_sign : BinaryOp → Punctuator
binary_sign binary.Multiply = p.Star
binary_sign binary.Divide = p.Slash
binary_sign binary.Remainder = p.Percent
binary_sign binary.Add = p.Plus
binary_sign binary.Subtract = p.Minus
binary_sign binary.ShiftLeft = p.ShiftLeft
binary_sign binary.ShiftRight = p.ShiftRight
binary_sign binary.Less = p.Less
binary_sign binary.Greater = p.Greater
binary_sign binary.LessEqual = p.LessEqual
binary_sign binary.GreaterEqual = p.GreaterEqual
binary_sign binary.Equal = p.EqualEqual
binary_sign binary.NotEqual = p.NotEqual
binary_sign binary.And = p.Ampersand
binary_sign binary.Xor = p.Caret
binary_sign binary.Or = p.Bar

abbrev pub binary_level : BinaryOp → ℕ
binary_level binary.Or = 5
binary_level binary.Xor = 6
binary_level binary.And = 7
binary_level binary.Equal = 8
binary_level binary.NotEqual = 8
binary_level binary.Less = 9
binary_level binary.Greater = 9
binary_level binary.LessEqual = 9
binary_level binary.GreaterEqual = 9
binary_level binary.ShiftLeft = 10
binary_level binary.ShiftRight = 10
binary_level binary.Add = 11
binary_level binary.Subtract = 11
binary_level binary.Multiply = 12
binary_level binary.Divide = 12
binary_level binary.Remainder = 12

abbrev pub logical_sign : LogicalOp → Punctuator
logical_sign logical.Or = p.OrOr
logical_sign logical.And = p.AndAnd

abbrev pub logical_level : LogicalOp → ℕ
logical_level logical.Or = 3
logical_level logical.And = 4

abbrev pub unary_sign : UnaryOp → Punctuator
unary_sign unary.Address = p.Ampersand
unary_sign unary.Indirection = p.Star
unary_sign unary.Plus = p.Plus
unary_sign unary.Minus = p.Minus
unary_sign unary.Complement = p.Tilde
unary_sign unary.Not = p.Exclamation

abbrev pub step_sign : StepOp → Punctuator
step_sign step.Increment = p.Increment
step_sign step.Decrement = p.Decrement

-- the sign of a compound assignment; the relational operators have none
abbrev pub compound_sign : BinaryOp → Option Punctuator
compound_sign binary.Multiply = Some p.StarAssign
compound_sign binary.Divide = Some p.SlashAssign
compound_sign binary.Remainder = Some p.PercentAssign
compound_sign binary.Add = Some p.PlusAssign
compound_sign binary.Subtract = Some p.MinusAssign
compound_sign binary.ShiftLeft = Some p.ShiftLeftAssign
compound_sign binary.ShiftRight = Some p.ShiftRightAssign
compound_sign binary.And = Some p.AndAssign
compound_sign binary.Xor = Some p.XorAssign
compound_sign binary.Or = Some p.OrAssign
compound_sign binary.Less = None
compound_sign binary.Greater = None
compound_sign binary.LessEqual = None
compound_sign binary.GreaterEqual = None
compound_sign binary.Equal = None
compound_sign binary.NotEqual = None

abbrev pub assign_sign : AssignOp → Option Punctuator
assign_sign assign.Simple = Some p.Assign
assign_sign (assign.Compound op) = compound_sign op

abbrev pub op_sign : Infix → Punctuator
op_sign (between.Binary op) = binary_sign op
op_sign (between.Logical op) = logical_sign op

abbrev pub op_level : Infix → ℕ
op_level (between.Binary op) = binary_level op
op_level (between.Logical op) = logical_level op

-- the level of the operator between two operands that a punctuator is; 0 for none
abbrev pub sign_level : Punctuator → ℕ
sign_level p.OrOr = 3
sign_level p.AndAnd = 4
sign_level p.Bar = 5
sign_level p.Caret = 6
sign_level p.Ampersand = 7
sign_level p.EqualEqual = 8
sign_level p.NotEqual = 8
sign_level p.Less = 9
sign_level p.Greater = 9
sign_level p.LessEqual = 9
sign_level p.GreaterEqual = 9
sign_level p.ShiftLeft = 10
sign_level p.ShiftRight = 10
sign_level p.Plus = 11
sign_level p.Minus = 11
sign_level p.Star = 12
sign_level p.Slash = 12
sign_level p.Percent = 12
sign_level _ = 0

abbrev pub symbol_level : Symbol → ℕ
symbol_level (symbol.Punctuator sign) = sign_level sign
symbol_level _ = 0

-- ---- the operators that symbols are

abbrev pub step_of : Symbol → Option StepOp
step_of (symbol.Punctuator p.Increment) = Some step.Increment
step_of (symbol.Punctuator p.Decrement) = Some step.Decrement
step_of _ = None

abbrev pub unary_of : Symbol → Option UnaryOp
unary_of (symbol.Punctuator p.Ampersand) = Some unary.Address
unary_of (symbol.Punctuator p.Star) = Some unary.Indirection
unary_of (symbol.Punctuator p.Plus) = Some unary.Plus
unary_of (symbol.Punctuator p.Minus) = Some unary.Minus
unary_of (symbol.Punctuator p.Tilde) = Some unary.Complement
unary_of (symbol.Punctuator p.Exclamation) = Some unary.Not
unary_of _ = None

abbrev pub assign_of_sign : Punctuator → Option AssignOp
assign_of_sign p.Assign = Some assign.Simple
assign_of_sign p.StarAssign = Some (assign.Compound binary.Multiply)
assign_of_sign p.SlashAssign = Some (assign.Compound binary.Divide)
assign_of_sign p.PercentAssign = Some (assign.Compound binary.Remainder)
assign_of_sign p.PlusAssign = Some (assign.Compound binary.Add)
assign_of_sign p.MinusAssign = Some (assign.Compound binary.Subtract)
assign_of_sign p.ShiftLeftAssign = Some (assign.Compound binary.ShiftLeft)
assign_of_sign p.ShiftRightAssign = Some (assign.Compound binary.ShiftRight)
assign_of_sign p.AndAssign = Some (assign.Compound binary.And)
assign_of_sign p.XorAssign = Some (assign.Compound binary.Xor)
assign_of_sign p.OrAssign = Some (assign.Compound binary.Or)
assign_of_sign _ = None

abbrev pub assign_of : Symbol → Option AssignOp
assign_of (symbol.Punctuator sign) = assign_of_sign sign
assign_of _ = None

-- whether an operator behind an operand begins
abbrev pub goes_on : Symbol → Bool
goes_on (symbol.Punctuator p.LeftBracket) = true
goes_on (symbol.Punctuator p.Dot) = true
goes_on (symbol.Punctuator p.Arrow) = true
goes_on (symbol.Punctuator p.Increment) = true
goes_on (symbol.Punctuator p.Decrement) = true
goes_on _ = false

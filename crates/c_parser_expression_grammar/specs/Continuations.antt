-- What a sign behind an operand begins.
use Rattle.c_layout.specs.declared.syntax_tree.expressions.AssignOp.{AssignOp}
use Rattle.c_layout.specs.declared.syntax_tree.expressions.AssignOp.TheVariants as assign
use Rattle.c_layout.specs.declared.syntax_tree.expressions.BinaryOp.{BinaryOp}
use Rattle.c_layout.specs.declared.syntax_tree.expressions.BinaryOp.TheVariants as binary
use Rattle.c_layout.specs.declared.syntax_tree.expressions.LogicalOp.{LogicalOp}
use Rattle.c_layout.specs.declared.syntax_tree.expressions.LogicalOp.TheVariants as logical
use Rattle.c_layout.specs.declared.syntax_tree.expressions.StepOp.{StepOp}
use Rattle.c_layout.specs.declared.syntax_tree.expressions.StepOp.TheVariants as step
use Rattle.c_parser_tokens.specs.declared.terminals.Punctuator.{Punctuator}
use Rattle.c_parser_tokens.specs.declared.terminals.Punctuator.TheVariants as p
use Rattle.c_parser_tokens.specs.declared.terminals.Symbol.{Symbol}
use Rattle.c_parser_tokens.specs.declared.terminals.Symbol.TheVariants as symbol

pub data Continuation : Type 0 where
  Arguments : Continuation
  Index : Continuation
  OfObject : Continuation
  OfPointer : Continuation
  Stepped : (op : StepOp) → Continuation
  With : (op : BinaryOp) → Continuation
  Joined : (op : LogicalOp) → Continuation
  Asks : Continuation
  Becomes : (op : AssignOp) → Continuation
  Follows : Continuation
  Nothing : Continuation

abbrev pub continuation_of_sign : Punctuator → Continuation
continuation_of_sign p.LeftParenthesis = Arguments
continuation_of_sign p.LeftBracket = Index
continuation_of_sign p.Dot = OfObject
continuation_of_sign p.Arrow = OfPointer
continuation_of_sign p.Increment = Stepped step.Increment
continuation_of_sign p.Decrement = Stepped step.Decrement
continuation_of_sign p.Star = With binary.Multiply
continuation_of_sign p.Slash = With binary.Divide
continuation_of_sign p.Percent = With binary.Remainder
continuation_of_sign p.Plus = With binary.Add
continuation_of_sign p.Minus = With binary.Subtract
continuation_of_sign p.ShiftLeft = With binary.ShiftLeft
continuation_of_sign p.ShiftRight = With binary.ShiftRight
continuation_of_sign p.Less = With binary.Less
continuation_of_sign p.Greater = With binary.Greater
continuation_of_sign p.LessEqual = With binary.LessEqual
continuation_of_sign p.GreaterEqual = With binary.GreaterEqual
continuation_of_sign p.EqualEqual = With binary.Equal
continuation_of_sign p.NotEqual = With binary.NotEqual
continuation_of_sign p.Ampersand = With binary.And
continuation_of_sign p.Caret = With binary.Xor
continuation_of_sign p.Bar = With binary.Or
continuation_of_sign p.AndAnd = Joined logical.And
continuation_of_sign p.OrOr = Joined logical.Or
continuation_of_sign p.Question = Asks
continuation_of_sign p.Assign = Becomes assign.Simple
continuation_of_sign p.StarAssign = Becomes (assign.Compound binary.Multiply)
continuation_of_sign p.SlashAssign = Becomes (assign.Compound binary.Divide)
continuation_of_sign p.PercentAssign = Becomes (assign.Compound binary.Remainder)
continuation_of_sign p.PlusAssign = Becomes (assign.Compound binary.Add)
continuation_of_sign p.MinusAssign = Becomes (assign.Compound binary.Subtract)
continuation_of_sign p.ShiftLeftAssign = Becomes (assign.Compound binary.ShiftLeft)
continuation_of_sign p.ShiftRightAssign = Becomes (assign.Compound binary.ShiftRight)
continuation_of_sign p.AndAssign = Becomes (assign.Compound binary.And)
continuation_of_sign p.XorAssign = Becomes (assign.Compound binary.Xor)
continuation_of_sign p.OrAssign = Becomes (assign.Compound binary.Or)
continuation_of_sign p.Comma = Follows
continuation_of_sign _ = Nothing

abbrev pub continuation_of : Symbol → Continuation
continuation_of (symbol.Punctuator sign) = continuation_of_sign sign
continuation_of _ = Nothing

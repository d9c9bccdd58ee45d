-- The operator that stands next, and its sign.
use Rattle.std.proofs.Common.{◌≡◌, ℕ, ◌+◌, Bool, true, false, List, nat_le, cond, Option, Some, None, sym, ap, ◌∙◌}
use Rattle.c_parser_tokens.specs.declared.terminals.Punctuator.{Punctuator}
use Rattle.c_parser_tokens.specs.declared.terminals.Punctuator.TheVariants as p
use Rattle.c_parser_tokens.specs.declared.terminals.Symbol.{Symbol}
use Rattle.c_parser_tokens.specs.declared.terminals.Symbol.TheVariants as symbol
use Rattle.c_parser_tokens.specs.declared.terminals.Terminal.{Terminal}
use Rattle.c_parser_expression_grammar.specs.declared.operators.Infix.{Infix}
use Rattle.c_parser_expression_grammar.specs.Continuations.{continuation_of, continuation_of_sign}
use Rattle.c_parser_expression_grammar.specs.Fronts.{first_symbol, behind_first}
use Rattle.c_parser_expression_grammar.specs.Levels.{op_sign, op_level}
use Rattle.c_parser_expression_grammar.specs.Readings.{Reading}
use Rattle.c_parser_expression_grammar.specs.ExpressionReaders.{Readers, infix_of, keep_from, infix_from}

abbrev sign_in : Option Infix → Punctuator
sign_in None = p.Comma
sign_in (Some op) = op_sign op

sign_is : (sign : Punctuator) (op : Infix) → infix_of (continuation_of_sign sign) ≡ Some op → sign ≡ op_sign op
sign_is p.OrOr op is = ap sign_in is
sign_is p.AndAnd op is = ap sign_in is
sign_is p.Bar op is = ap sign_in is
sign_is p.Caret op is = ap sign_in is
sign_is p.Ampersand op is = ap sign_in is
sign_is p.EqualEqual op is = ap sign_in is
sign_is p.NotEqual op is = ap sign_in is
sign_is p.Less op is = ap sign_in is
sign_is p.Greater op is = ap sign_in is
sign_is p.LessEqual op is = ap sign_in is
sign_is p.GreaterEqual op is = ap sign_in is
sign_is p.ShiftLeft op is = ap sign_in is
sign_is p.ShiftRight op is = ap sign_in is
sign_is p.Plus op is = ap sign_in is
sign_is p.Minus op is = ap sign_in is
sign_is p.Star op is = ap sign_in is
sign_is p.Slash op is = ap sign_in is
sign_is p.Percent op is = ap sign_in is
sign_is _ op is = absurd (cc is)

symbol_is : (s : Symbol) (op : Infix) → infix_of (continuation_of s) ≡ Some op → s ≡ symbol.Punctuator (op_sign op)
symbol_is (symbol.Punctuator sign) op is = ap (λ (x : Punctuator). symbol.Punctuator x) (sign_is sign op is)
symbol_is _ op is = absurd (cc is)

kept : (level : ℕ) (o : Option Infix) (op : Infix) → keep_from level o ≡ Some op → o ≡ Some op
kept level None op is = absurd (cc is)
kept level (Some found) op is = chosen (nat_le level (op_level found)) is
  where
    chosen : (x : Bool) → cond x (Some found) None ≡ Some op → Some found ≡ Some op
    chosen true is = is
    chosen false is = absurd (cc is)

-- where an operator stands next, its sign does
pub sign_stands : (level : ℕ) (ts : List Terminal) (op : Infix) → infix_from level ts ≡ Some op → first_symbol ts ≡ symbol.Punctuator (op_sign op)
sign_stands level ts op is = symbol_is (first_symbol ts) op (kept level (infix_of (continuation_of (first_symbol ts))) op is)

-- what the code's reader of a level read, where the definition reads
pub right_is : (i : Readers) (n m : ℕ) (ts a : List Terminal) (r : Reading) → n ≡ m → a ≡ behind_first ts → i.binary (n + 1) a ≡ r → i.binary (m + 1) (behind_first ts) ≡ r
right_is i n m ts a r same a-is reads = ap (λ k. i.binary (k + 1) (behind_first ts)) (sym same) ∙ (ap (i.binary (n + 1)) (sym a-is) ∙ reads)

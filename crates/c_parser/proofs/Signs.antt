-- Where a sign does not stand, the tests of readers as definitions say so.
use Rattle.std.proofs.Common.{◌≡◌, ◌≢◌, false, refl}
use Rattle.c_parser_tokens.specs.declared.terminals.Punctuator.TheVariants as p
use Rattle.c_parser_tokens.specs.declared.terminals.Symbol.{Symbol}
use Rattle.c_parser_tokens.specs.declared.terminals.Symbol.TheVariants as symbol
use Rattle.c_parser_expression_grammar.specs.Readings.{is_left_parenthesis}

pub no_left_parenthesis : (s : Symbol) → s ≢ symbol.Punctuator p.LeftParenthesis → is_left_parenthesis s ≡ false
no_left_parenthesis (symbol.Punctuator p.LeftParenthesis) n = absurd (n refl)
no_left_parenthesis _ n = refl

-- Where a sign does not stand, the tests of readers as definitions say so.
use Rattle.std.proofs.Common.{◌≡◌, ◌≢◌, ◌↔◌, IsTrue, false, refl}
use Rattle.c_parser_tokens.specs.declared.terminals.Keyword.TheVariants as k
use Rattle.c_parser_tokens.specs.declared.terminals.Punctuator.TheVariants as p
use Rattle.c_parser_tokens.specs.declared.terminals.Symbol.{Symbol}
use Rattle.c_parser_tokens.specs.declared.terminals.Symbol.TheVariants as symbol
use Rattle.c_parser_expression_grammar.specs.Readings.{is_left_parenthesis, is_right_parenthesis, is_left_bracket, is_right_bracket, is_question, is_colon, is_comma, is_sizeof}
use Rattle.c_parser_expression_grammar.specs.TypeNameReaders.{is_star}

pub no_right_parenthesis : (s : Symbol) → s ≢ symbol.Punctuator p.RightParenthesis → is_right_parenthesis s ≡ false
no_right_parenthesis (symbol.Punctuator p.RightParenthesis) n = absurd (n refl)
no_right_parenthesis _ n = refl

pub no_left_bracket : (s : Symbol) → s ≢ symbol.Punctuator p.LeftBracket → is_left_bracket s ≡ false
no_left_bracket (symbol.Punctuator p.LeftBracket) n = absurd (n refl)
no_left_bracket _ n = refl

pub no_right_bracket : (s : Symbol) → s ≢ symbol.Punctuator p.RightBracket → is_right_bracket s ≡ false
no_right_bracket (symbol.Punctuator p.RightBracket) n = absurd (n refl)
no_right_bracket _ n = refl

pub no_colon : (s : Symbol) → s ≢ symbol.Punctuator p.Colon → is_colon s ≡ false
no_colon (symbol.Punctuator p.Colon) n = absurd (n refl)
no_colon _ n = refl

pub no_comma : (s : Symbol) → s ≢ symbol.Punctuator p.Comma → is_comma s ≡ false
no_comma (symbol.Punctuator p.Comma) n = absurd (n refl)
no_comma _ n = refl

pub no_star : (s : Symbol) → s ≢ symbol.Punctuator p.Star → is_star s ≡ false
no_star (symbol.Punctuator p.Star) n = absurd (n refl)
no_star _ n = refl

-- what a test that says no says
pub not_so : {P : Type 0} → (IsTrue false ↔ P) → ¬ P
not_so same p = absurd (cc (same.1 p))

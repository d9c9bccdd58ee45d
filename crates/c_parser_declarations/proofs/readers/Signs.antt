-- Where a sign does not stand, the tests of readers as definitions say so.
use Rattle.std.proofs.Common.{◌≡◌, ◌≢◌, Bool, false, refl}
use Rattle.c_parser_tokens.specs.declared.terminals.Punctuator.TheVariants as p
use Rattle.c_parser_tokens.specs.declared.terminals.Symbol.{Symbol}
use Rattle.c_parser_tokens.specs.declared.terminals.Symbol.TheVariants as symbol
use Rattle.c_parser_expression_grammar.specs.Readings.{is_left_brace, is_right_brace}
use Rattle.c_parser_declarations.specs.Grammar.SpecifierReaders.{is_assign, is_semicolon}

pub no_left_brace : (s : Symbol) → s ≢ symbol.Punctuator p.LeftBrace → is_left_brace s ≡ false
no_left_brace (symbol.Punctuator p.LeftBrace) n = absurd (n refl)
no_left_brace _ n = refl

pub no_right_brace : (s : Symbol) → s ≢ symbol.Punctuator p.RightBrace → is_right_brace s ≡ false
no_right_brace (symbol.Punctuator p.RightBrace) n = absurd (n refl)
no_right_brace _ n = refl

pub no_assign : (s : Symbol) → s ≢ symbol.Punctuator p.Assign → is_assign s ≡ false
no_assign (symbol.Punctuator p.Assign) n = absurd (n refl)
no_assign _ n = refl

pub no_semicolon : (s : Symbol) → s ≢ symbol.Punctuator p.Semicolon → is_semicolon s ≡ false
no_semicolon (symbol.Punctuator p.Semicolon) n = absurd (n refl)
no_semicolon _ n = refl

-- What the tokens of a unit are to the grammar, and which of them are refused.
use Rattle.std.specs.Prelude.{◌≡◌, ℕ, Bool, true, false, ◌&&◌, cond, Option, Some, None, Result, Ok, Err, List, [], ◌∷◌, ◌++◌, fold, find, option_and_then, ◌⊎◌}
use Rattle.cc_base.specs.declared.diagnostics.Place.{Place}
use Rattle.cc_base.specs.declared.lexemes.Kind.{Kind}
use Rattle.cc_base.specs.declared.lexemes.Kind.TheVariants as kind
use Rattle.cc_base.specs.declared.lexemes.Token.{Token}
use Rattle.cc_base.specs.declared.refusals.Fault.{Fault}
use Rattle.cc_base.specs.declared.refusals.Stop.{Stop}
use Rattle.cc_base.specs.declared.refusals.Stop.TheVariants as stop
use Rattle.cc_base.specs.declared.refusals.Refusal.TheVariants as refusal
use Rattle.c_layout.specs.declared.data_model.Model.{Model}
use Rattle.c_layout.specs.declared.syntax_tree.expressions.Constant.{Constant}
use Rattle.c_parser_tokens.specs.declared.terminals.Keyword.{Keyword}
use Rattle.c_parser_tokens.specs.declared.terminals.Punctuator.{Punctuator}
use Rattle.c_parser_tokens.specs.declared.terminals.Symbol.{Symbol}
use Rattle.c_parser_tokens.specs.declared.terminals.Symbol.TheVariants as symbol
use Rattle.c_parser_tokens.specs.declared.terminals.Terminal.{Terminal}
use Rattle.c_parser_tokens.specs.CharacterCodes.{character_constant, literal_bytes}
use Rattle.c_parser_tokens.specs.ConstantTypes.{integer_constant}
use Rattle.c_parser_tokens.specs.Keywords.{is_left_out, keyword_of}
use Rattle.c_parser_tokens.specs.Punctuators.{punctuator_of}

abbrev pub keyword_symbol : Option Keyword → Symbol
keyword_symbol (Some word) = symbol.Keyword word
keyword_symbol None = symbol.Identifier

-- what a word is
abbrev pub symbol_of_name : List ℕ → Symbol
symbol_of_name text = cond (is_left_out text) symbol.Unsupported (keyword_symbol (keyword_of text))

abbrev pub punctuator_symbol : Option Punctuator → Symbol
punctuator_symbol (Some sign) = symbol.Punctuator sign
punctuator_symbol None = symbol.Unsupported

abbrev pub constant_symbol : Constant → Option Symbol
constant_symbol c = Some (symbol.Constant c)

-- what a token of a kind is; None where it is a constant whose form is not in
abbrev pub symbol_by : Model → Kind → List ℕ → Option Symbol
symbol_by m kind.Name text = Some (symbol_of_name text)
symbol_by m kind.Number text = option_and_then constant_symbol (integer_constant m text)
symbol_by m kind.Char text = option_and_then constant_symbol (character_constant m text)
symbol_by m kind.Str text = Some symbol.Literal
symbol_by m kind.Punct text = Some (punctuator_symbol (punctuator_of text))
symbol_by m kind.HeaderName text = Some symbol.HeaderName

abbrev pub symbol_of : Model → Token → Option Symbol
symbol_of m t = symbol_by m t.kind t.text

-- the text that a terminal keeps; None where an escape is not in
abbrev pub kept_text : Symbol → List ℕ → Option (List ℕ)
kept_text symbol.Identifier text = Some text
kept_text symbol.Unsupported text = Some text
kept_text symbol.Literal text = literal_bytes text
kept_text _ text = Some []

abbrev pub terminal_with : Place → Symbol → List ℕ → Terminal
terminal_with place symbol text = record { place = place; symbol = symbol; text = text }

-- the terminal of a token; None where it is a number, a character constant or a string literal whose
-- form is not in
abbrev pub terminal_of : Model → Token → Option Terminal
terminal_of m t = option_and_then (λ s. option_and_then (λ text. Some (terminal_with t.place s text)) (kept_text s t.text)) (symbol_of m t)

-- ---- the terminals of a unit

abbrev pub is_literal : Symbol → Bool
is_literal symbol.Literal = true
is_literal _ = false

-- two terminals, or the one literal that two adjacent literals are (5.1.1.2, translation phase 6)
abbrev pub joined_two : Terminal → Terminal → List Terminal
joined_two a b = cond (is_literal a.symbol && is_literal b.symbol) (terminal_with a.place a.symbol (a.text ++ b.text) ∷ []) (a ∷ (b ∷ []))

-- terminals with one more behind them
abbrev pub joined : List Terminal → Terminal → List Terminal
joined [] t = t ∷ []
joined (x ∷ []) t = joined_two x t
joined (x ∷ (y ∷ more)) t = x ∷ joined (y ∷ more) t

-- the terminals of tokens behind others, or the place of the first token that has none
abbrev pub terminals_after : Model → List Terminal → List Token → Result (List Terminal) Place
terminals_after m before [] = Ok before
terminals_after m before (t ∷ ts) = elim (terminal_of m t) [ None ↦ Err t.place | Some next ↦ terminals_after m (joined before next) ts ]

abbrev pub is_unsupported : Symbol → Bool
is_unsupported symbol.Unsupported = true
is_unsupported _ = false

abbrev pub without_left_out : List Terminal → Option Terminal → Result (List Terminal) Fault
without_left_out ts None = Ok ts
without_left_out ts (Some t) = Err (record { place = t.place; refusal = refusal.Unsupported t.text })

abbrev pub judged : Result (List Terminal) Place → Result (List Terminal) Fault
judged (Err at) = Err (record { place = at; refusal = refusal.NumberForm })
judged (Ok ts) = without_left_out ts (find (λ t. is_unsupported t.symbol) ts)

-- the terminals of a unit; else NumberForm at its first token whose form is not in, else Unsupported at
-- the first word or punctuator that is left out
abbrev pub classified : Model → List Token → Result (List Terminal) Fault
classified m tokens = judged (terminals_after m [] tokens)

-- want of memory, or this refusal
abbrev pub IsStop : Result (List Terminal) Fault → Stop → Type 0
IsStop (Ok ts) e = e ≡ stop.Memory
IsStop (Err fault) e = (e ≡ stop.Memory) ⊎ (e ≡ stop.Refused fault)

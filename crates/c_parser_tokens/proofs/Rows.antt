-- Worked rows of the classes of tokens.
use Rattle.std.proofs.Common.{◌≡◌, ℕ, List, [], ◌∷◌, ◌++◌, true, false, Some, None, Ok, Err, refl, codes}
use Rattle.cc_base.specs.declared.diagnostics.Place.{Place}
use Rattle.cc_base.specs.declared.lexemes.Kind.{Kind}
use Rattle.cc_base.specs.declared.lexemes.Kind.TheVariants as kind
use Rattle.cc_base.specs.declared.lexemes.Token.{Token}
use Rattle.cc_base.specs.declared.refusals.Refusal.TheVariants as refusal
use Rattle.c_layout.specs.declared.data_model.Model.{Model}
use Rattle.c_parser_tokens.specs.declared.terminals.Keyword.TheVariants as k
use Rattle.c_parser_tokens.specs.declared.terminals.Symbol.TheVariants as symbol
use Rattle.c_parser_tokens.specs.CharacterCodes.{character_constant, literal_bytes}
use Rattle.c_parser_tokens.specs.Classes.{classified}
use Rattle.c_parser_tokens.specs.ConstantTypes.{integer_constant}

abbrev lp64 : Model
lp64 = record { short = 2; int = 4; long = 8; long_long = 8; pointer = 8; char_signed = true }

-- a decimal constant has a signed type, a hexadecimal one may have an unsigned one (6.4.4.1)
decimal : integer_constant lp64 (codes "2147483648") ≡ Some (record { value = 2147483648; negative = false; kind = record { bytes = 8; signed = true; rank = 4 } })
decimal = refl

hexadecimal : integer_constant lp64 (codes "0xffffffff") ≡ Some (record { value = 4294967295; negative = false; kind = record { bytes = 4; signed = false; rank = 3 } })
hexadecimal = refl

unsigned_long : integer_constant lp64 (codes "1uL") ≡ Some (record { value = 1; negative = false; kind = record { bytes = 8; signed = false; rank = 4 } })
unsigned_long = refl

not_octal : integer_constant lp64 (codes "09") ≡ None
not_octal = refl

too_great : integer_constant lp64 (codes "18446744073709551616") ≡ None
too_great = refl

mixed_suffix : integer_constant lp64 (codes "1lL") ≡ None
mixed_suffix = refl

floating : integer_constant lp64 (codes "1.0") ≡ None
floating = refl

-- `'\377'` is -1 where char is signed (6.4.4.4p13)
octal_escape : character_constant lp64 (codes "'\\377'") ≡ Some (record { value = 1; negative = true; kind = record { bytes = 4; signed = true; rank = 3 } })
octal_escape = refl

too_wide : character_constant lp64 (codes "'\\400'") ≡ None
too_wide = refl

two_characters : character_constant lp64 (codes "'ab'") ≡ None
two_characters = refl

-- three octal digits at most (6.4.4.4p9)
string : literal_bytes (codes "\"\\0123\\x41\"") ≡ Some (10 ∷ (51 ∷ (65 ∷ [])))
string = refl

bad_escape : literal_bytes (codes "\"\\q\"") ≡ None
bad_escape = refl

abbrev at : ℕ → Place
at n = record { file = 0; line = 1; col = n }

abbrev token : Kind → List ℕ → ℕ → Token
token k text n = record { kind = k; text = text; place = at n; first = false; space = false }

-- a number of the unit goes before a word that stands before it
number_first : classified lp64 (token kind.Name (codes "float") 1 ∷ (token kind.Number (codes "09") 7 ∷ [])) ≡ Err (record { place = at 7; refusal = refusal.NumberForm })
number_first = refl

left_out : classified lp64 (token kind.Name (codes "int") 1 ∷ (token kind.Name (codes "float") 5 ∷ [])) ≡ Err (record { place = at 5; refusal = refusal.Unsupported (codes "float") })
left_out = refl

-- the joined literal has the first one's place
literals : classified lp64 (token kind.Str (codes "\"a\"") 1 ∷ (token kind.Str (codes "\"b\"") 5 ∷ [])) ≡ Ok (record { place = at 1; symbol = symbol.Literal; text = codes "ab" } ∷ [])
literals = refl

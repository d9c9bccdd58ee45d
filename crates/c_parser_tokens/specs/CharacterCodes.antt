-- Characters and escapes of character constants and string literals (6.4.4.4, 6.4.5).
use Rattle.std.specs.Prelude.{ℕ, zero, suc, ◌+◌, ◌-◌, Bool, true, false, ◌||◌, ◌&&◌, ◌==◌, cond, min, nat_lt, Option, Some, None, List, [], ◌∷◌, ◌++◌, length, take, drop, option_and_then}
use Rattle.c_layout.specs.declared.data_model.Model.{Model}
use Rattle.c_layout.specs.declared.syntax_tree.expressions.Constant.{Constant}
use Rattle.c_parser_tokens.specs.declared.character_codes.Character.{Character}
use Rattle.c_parser_tokens.specs.IntegerForms.{is_between, digit_count, magnitude}

-- the code of a simple escape
abbrev pub simple_escape : ℕ → Option ℕ
simple_escape b =
    cond (b == 39 || b == 34 || b == 63 || b == 92) (Some b)
    (cond (b == 97) (Some 7) (cond (b == 98) (Some 8) (cond (b == 102) (Some 12) (cond (b == 110) (Some 10) (cond (b == 114) (Some 13) (cond (b == 116) (Some 9) (cond (b == 118) (Some 11) None)))))))

-- a code, and what stands behind its spelling
pub record CharacterAt : Type 0 where
  pub code : ℕ
  pub rest : List ℕ

abbrev pub character_at : Character → CharacterAt
character_at c = record { code = c.code; rest = c.rest.now }

abbrev pub with_rest : List ℕ → ℕ → Option CharacterAt
with_rest rest code = Some (record { code = code; rest = rest })

-- a code that a byte has
abbrev pub byte_with : List ℕ → ℕ → Option CharacterAt
byte_with rest n = cond (nat_lt n 256) (with_rest rest n) None

-- a numeric escape of so many digits
abbrev pub numeric_of : ℕ → ℕ → List ℕ → Option CharacterAt
numeric_of base count text = cond (count == 0) None (option_and_then (byte_with (drop count text)) (magnitude base (take count text)))

-- a numeric escape of at most `most` digits
abbrev pub numeric_escape : ℕ → ℕ → List ℕ → Option CharacterAt
numeric_escape base most text = numeric_of base (min (digit_count base text) most) text

-- an escape, behind its backslash
abbrev pub escape : List ℕ → Option CharacterAt
escape [] = None
escape (b ∷ s) = cond (b == 120) (numeric_escape 16 (length s) s) (cond (is_between 48 55 b) (numeric_escape 8 3 (b ∷ s)) (option_and_then (with_rest s) (simple_escape b)))

-- the character at the front; None at the end, and where an escape is not in
abbrev pub first_character : List ℕ → Option CharacterAt
first_character [] = None
first_character (b ∷ s) = cond (b == 92) (escape s) (with_rest s b)

-- a text without its last byte
abbrev pub without_last : List ℕ → List ℕ
without_last s = take (length s - 1) s

-- a text without its first and its last byte
abbrev pub inside : List ℕ → List ℕ
inside (a ∷ (b ∷ s)) = without_last (b ∷ s)
inside _ = []

abbrev pub is_empty : List ℕ → Bool
is_empty [] = true
is_empty _ = false

-- a character constant by its code; its type is int (6.4.4.4p10)
abbrev pub code_constant : Model → ℕ → Constant
code_constant m code = record {
  value = cond (m.char_signed && nat_lt 127 code) (256 - code) code;
  negative = m.char_signed && nat_lt 127 code;
  kind = record { bytes = m.int; signed = true; rank = 3 };
}

abbrev pub lone_constant : Model → CharacterAt → Option Constant
lone_constant m found = cond (is_empty found.rest) (Some (code_constant m found.code)) None

-- the character constant that is spelled so, with its quotes
abbrev pub character_constant : Model → List ℕ → Option Constant
character_constant m text = option_and_then (lone_constant m) (first_character (inside text))

-- the codes of at most so many characters, behind others
abbrev pub codes_after : ℕ → List ℕ → List ℕ → Option (List ℕ)
codes_after zero before text = Some before
codes_after (suc n) before text = cond (is_empty text) (Some before) (option_and_then (λ found. codes_after n (before ++ (found.code ∷ [])) found.rest) (first_character text))

-- the bytes that a string literal with its quotes stands for; None where an escape is not in
abbrev pub literal_bytes : List ℕ → Option (List ℕ)
literal_bytes text = codes_after (length text) [] (inside text)

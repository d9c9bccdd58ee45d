-- The bytes of a source file (5.2.1) and what they can begin (6.4).
use Rattle.std.specs.Prelude.{ℕ, Bool, true, false, ◌||◌, ◌&&◌, ◌==◌, nat_le, if◌then◌else◌, List, [], ◌∷◌}
use Rattle.c_lexer.specs.declared.byte_class.Class.{Class}
use Rattle.c_lexer.specs.declared.byte_class.Class.TheVariants.{Letter, Digit, Dot, Quote, Apostrophe, Slash, Less, LineEnd, Blank, Other}

abbrev pub is_between : ℕ → ℕ → ℕ → Bool
is_between low high b = nat_le low b && nat_le b high

-- a nondigit of 6.4.2.1
abbrev pub is_letter : ℕ → Bool
is_letter b = is_between 97 122 b || is_between 65 90 b || b == 95

abbrev pub is_digit : ℕ → Bool
is_digit b = is_between 48 57 b

abbrev pub is_word : ℕ → Bool
is_word b = is_letter b || is_digit b

-- space, tab, vertical tab, form feed
abbrev pub is_blank : ℕ → Bool
is_blank b = b == 32 || b == 9 || b == 11 || b == 12

-- a byte that may stand anywhere in a source file
abbrev pub is_source : ℕ → Bool
is_source b = is_between 9 12 b || is_between 32 126 b

-- a byte that may stand in a comment or a string literal
abbrev pub is_text : ℕ → Bool
is_text b = is_source b || nat_le 128 b

abbrev pub is_sign : ℕ → Bool
is_sign b = b == 43 || b == 45

-- a letter before the exponent of a number
abbrev pub is_exponent : ℕ → Bool
is_exponent b = b == 101 || b == 69 || b == 112 || b == 80

-- a byte goes on with a preprocessing number whose last byte is this one (6.4.8)
abbrev pub goes_on : ℕ → ℕ → Bool
goes_on last b = is_word b || b == 46 || (is_sign b && is_exponent last)

abbrev pub is_no_line_end : ℕ → Bool
is_no_line_end b = if b == 10 then false else true

-- the first byte of a list is this one
abbrev pub begins : ℕ → List ℕ → Bool
begins b [] = false
begins b (x ∷ s) = x == b

abbrev pub begins_digit : List ℕ → Bool
begins_digit [] = false
begins_digit (x ∷ s) = is_digit x

-- what a byte can begin
unfoldable pub class_of : ℕ → Class
class_of b = if is_letter b then Letter else if is_digit b then Digit else if b == 46 then Dot
    else if b == 34 then Quote else if b == 39 then Apostrophe else if b == 47 then Slash
    else if b == 60 then Less else if b == 10 then LineEnd else if is_blank b then Blank else Other

-- Integer constants and character constants of a condition (6.4.4.1, 6.4.4.4).
use Rattle.std.specs.Prelude.{◌≡◌, refl, codes, ℕ, ◌+◌, ◌-◌, ◌*◌, ◌^◌, ℤ, pos, ◌-ℤ◌, Bool, true, false, ◌||◌, ◌&&◌, ◌==◌, cond, nat_le, nat_lt, Option, Some, None, List, [], ◌∷◌, length, take, drop, option_and_then, option_map, slice_index}
use Rattle.c_preproc_conditions.specs.declared.condition_value.Number.{Number}
use Rattle.c_preproc_conditions.specs.declared.condition_value.Number.TheVariants.{Signed, Unsigned}

abbrev pub is_between : ℕ → ℕ → ℕ → Bool
is_between low high b = nat_le low b && nat_le b high

-- the value of a digit in bases up to 16
abbrev pub digit_value : ℕ → Option ℕ
digit_value b = cond (is_between 48 57 b) (Some (b - 48)) (cond (is_between 97 102 b) (Some (b - 87)) (cond (is_between 65 70 b) (Some (b - 55)) None))

abbrev pub is_below : ℕ → Option ℕ → Bool
is_below base None = false
is_below base (Some value) = nat_lt value base

abbrev pub is_digit_of : ℕ → ℕ → Bool
is_digit_of base b = is_below base (digit_value b)

-- how many digits of a base stand at the front
abbrev pub digit_count : ℕ → List ℕ → ℕ
digit_count base [] = 0
digit_count base (b ∷ s) = cond (is_digit_of base b) (digit_count base s + 1) 0

-- the value of a simple escape
abbrev pub simple_escape : ℕ → Option ℕ
simple_escape b =
    cond (b == 39 || b == 34 || b == 63 || b == 92) (Some b)
    (cond (b == 97) (Some 7) (cond (b == 98) (Some 8) (cond (b == 102) (Some 12) (cond (b == 110) (Some 10) (cond (b == 114) (Some 13) (cond (b == 116) (Some 9) (cond (b == 118) (Some 11) None)))))))

abbrev pub is_l : ℕ → Bool
is_l b = b == 108 || b == 76

abbrev pub is_u : ℕ → Bool
is_u b = b == 117 || b == 85

-- `ll` or `LL`
abbrev pub is_ll : ℕ → ℕ → Bool
is_ll a b = (a == 108 && b == 108) || (a == 76 && b == 76)

-- whether a suffix has a `u`; None where it is no suffix
abbrev pub suffix_is_unsigned : List ℕ → Option Bool
suffix_is_unsigned [] = Some false
suffix_is_unsigned (a ∷ []) = cond (is_l a) (Some false) (cond (is_u a) (Some true) None)
suffix_is_unsigned (a ∷ (b ∷ [])) = cond (is_ll a b) (Some false) (cond ((is_u a && is_l b) || (is_l a && is_u b)) (Some true) None)
suffix_is_unsigned (a ∷ (b ∷ (c ∷ []))) = cond ((is_u a && is_ll b c) || (is_ll a b && is_u c)) (Some true) None
suffix_is_unsigned _ = None

-- a number by its magnitude, its base and its suffix
abbrev pub typed : ℕ → ℕ → Bool → Option Number
typed base value is_unsigned =
    cond is_unsigned (Some (Unsigned value)) (cond (nat_lt value (2 ^ 63)) (Some (Signed (pos value))) (cond (base == 10) None (Some (Unsigned value))))

-- the number that digits of a base spell behind a total; None where it passes 2^64 - 1
abbrev pub magnitude_after : ℕ → ℕ → List ℕ → Option ℕ
magnitude_after base total [] = Some total
magnitude_after base total (b ∷ s) = option_and_then (λ v. cond (nat_lt (total * base + v) (2 ^ 64)) (magnitude_after base (total * base + v) s) None) (digit_value b)

abbrev pub magnitude : ℕ → List ℕ → Option ℕ
magnitude base digits = magnitude_after base 0 digits

-- a constant of that many digits and a suffix
abbrev pub number_of : ℕ → ℕ → List ℕ → Option Number
number_of base count text = option_and_then (λ u. option_and_then (λ m. typed base m u) (magnitude base (take count text))) (suffix_is_unsigned (drop count text))

-- a constant whose digits begin at the front
abbrev pub based_number : ℕ → List ℕ → Option Number
based_number base text = cond (digit_count base text == 0) None (number_of base (digit_count base text) text)

abbrev pub is_hexadecimal : List ℕ → Bool
is_hexadecimal (a ∷ (b ∷ s)) = a == 48 && (b == 120 || b == 88)
is_hexadecimal _ = false

abbrev pub begins_with_zero : List ℕ → Bool
begins_with_zero (a ∷ s) = a == 48
begins_with_zero [] = false

-- the value of an integer constant
abbrev pub integer_constant : List ℕ → Option Number
integer_constant text = cond (is_hexadecimal text) (based_number 16 (drop 2 text)) (cond (begins_with_zero text) (based_number 8 text) (based_number 10 text))

abbrev pub is_empty : List ℕ → Bool
is_empty [] = true
is_empty _ = false

-- a code that a byte has
abbrev pub byte_code : Option ℕ → Option ℕ
byte_code code = option_and_then (λ n. cond (nat_lt n 256) (Some n) None) code

-- up to three octal digits
abbrev pub octal_code : List ℕ → Option ℕ
octal_code text = cond (nat_lt (digit_count 8 text) (length text) || nat_lt 3 (length text)) None (byte_code (magnitude 8 text))

-- the code of an escape, without its backslash
abbrev pub escape_code : List ℕ → Option ℕ
escape_code [] = None
escape_code (b ∷ s) =
    cond (b == 120) (cond (is_empty s) None (byte_code (magnitude 16 s))) (cond (is_between 48 55 b) (octal_code (b ∷ s)) (cond (is_empty s) (simple_escape b) None))

-- the code of the one character between the quotes
abbrev pub character_code : List ℕ → Option ℕ
character_code [] = None
character_code (b ∷ s) = cond (b == 92) (escape_code s) (cond (is_empty s) (Some b) None)

-- what stands before a quote at the end
abbrev pub before_quote : List ℕ → Option (List ℕ)
before_quote s = cond (nat_lt 0 (length s) && (slice_index s (length s - 1) == 39)) (Some (take (length s - 1) s)) None

-- what stands between two quotes
abbrev pub between_quotes : List ℕ → Option (List ℕ)
between_quotes [] = None
between_quotes (b ∷ s) = cond (b == 39) (before_quote s) None

-- a code as a signed char
abbrev pub signed_char : ℕ → ℤ
signed_char code = cond (nat_lt 127 code) (pos code -ℤ pos 256) (pos code)

-- a code as a char
abbrev pub char_value : Bool → ℕ → Number
char_value char_signed code = Signed (cond char_signed (signed_char code) (pos code))

-- the value of a character constant with its quotes
abbrev pub character_constant : List ℕ → Bool → Option Number
character_constant text char_signed = option_map (char_value char_signed) (option_and_then character_code (between_quotes text))

-- 255 is `0xFF`, 8 is no octal digit, and 2^63 is signed in no base
ten : integer_constant (codes "10") ≡ Some (Signed (pos 10))
ten = refl

hexadecimal : integer_constant (codes "0xFFu") ≡ Some (Unsigned 255)
hexadecimal = refl

not_octal : integer_constant (codes "08") ≡ None
not_octal = refl

octal_unsigned : integer_constant (codes "01000000000000000000000") ≡ Some (Unsigned (2 ^ 63))
octal_unsigned = refl

too_great : integer_constant (codes "9223372036854775808") ≡ None
too_great = refl

two_suffixes : integer_constant (codes "1llUL") ≡ None
two_suffixes = refl

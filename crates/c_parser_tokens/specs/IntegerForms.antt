-- Integer constants as they are spelled (6.4.4.1).
use Rattle.std.specs.Prelude.{◌≡◌, ℕ, ◌+◌, ◌-◌, ◌*◌, ◌^◌, Bool, true, false, ◌||◌, ◌&&◌, ◌==◌, cond, nat_le, nat_lt, Option, Some, None, List, [], ◌∷◌, take, drop, option_and_then}
use Rattle.c_parser_tokens.specs.declared.integer_forms.Suffix.{Suffix}
use Rattle.c_parser_tokens.specs.declared.integer_forms.Spelled.{Spelled}

abbrev pub is_between : ℕ → ℕ → ℕ → Bool
is_between low high b = nat_le low b && nat_le b high

-- the value of a digit in bases up to 16
abbrev pub digit_value : ℕ → Option ℕ
digit_value b = cond (is_between 48 57 b) (Some (b - 48)) (cond (is_between 97 102 b) (Some (b - 87)) (cond (is_between 65 70 b) (Some (b - 55)) None))

abbrev pub is_below : ℕ → Option ℕ → Bool
is_below base None = false
is_below base (Some value) = nat_lt value base

abbrev pub is_digit_of : ℕ → ℕ → Bool
is_digit_of base b = is_below base (digit_value b)

-- how many digits of a base stand at the front
abbrev pub digit_count : ℕ → List ℕ → ℕ
digit_count base [] = 0
digit_count base (b ∷ s) = cond (is_digit_of base b) (digit_count base s + 1) 0

-- the number that digits of a base spell behind a total; None where it passes 2^64 - 1
abbrev pub magnitude_after : ℕ → ℕ → List ℕ → Option ℕ
magnitude_after base total [] = Some total
magnitude_after base total (b ∷ s) = option_and_then (λ v. cond (nat_lt (total * base + v) (2 ^ 64)) (magnitude_after base (total * base + v) s) None) (digit_value b)

abbrev pub magnitude : ℕ → List ℕ → Option ℕ
magnitude base digits = magnitude_after base 0 digits

abbrev pub is_l : ℕ → Bool
is_l b = b == 108 || b == 76

abbrev pub is_u : ℕ → Bool
is_u b = b == 117 || b == 85

-- `ll` or `LL`
abbrev pub is_ll : ℕ → ℕ → Bool
is_ll a b = (a == 108 && b == 108) || (a == 76 && b == 76)

abbrev pub suffix_with : Bool → ℕ → Option Suffix
suffix_with is_unsigned longs = Some (record { is_unsigned = is_unsigned; longs = longs })

-- the suffix that is spelled so
abbrev pub suffix_of : List ℕ → Option Suffix
suffix_of [] = suffix_with false 0
suffix_of (a ∷ []) = cond (is_l a) (suffix_with false 1) (cond (is_u a) (suffix_with true 0) None)
suffix_of (a ∷ (b ∷ [])) = cond (is_ll a b) (suffix_with false 2) (cond ((is_u a && is_l b) || (is_l a && is_u b)) (suffix_with true 1) None)
suffix_of (a ∷ (b ∷ (c ∷ []))) = cond ((is_u a && is_ll b c) || (is_ll a b && is_u c)) (suffix_with true 2) None
suffix_of _ = None

-- a constant of that many digits and a suffix
abbrev pub spelled_with : ℕ → ℕ → List ℕ → Option Spelled
spelled_with base count text =
    option_and_then (λ m. option_and_then (λ s. Some (record { base = base; value = m; suffix = s })) (suffix_of (drop count text))) (magnitude base (take count text))

-- a constant whose digits begin at the front
abbrev pub spelled_in : ℕ → List ℕ → Option Spelled
spelled_in base text = cond (digit_count base text == 0) None (spelled_with base (digit_count base text) text)

abbrev pub is_hexadecimal : List ℕ → Bool
is_hexadecimal (a ∷ (b ∷ s)) = a == 48 && (b == 120 || b == 88)
is_hexadecimal _ = false

abbrev pub begins_with_zero : List ℕ → Bool
begins_with_zero (a ∷ s) = a == 48
begins_with_zero [] = false

-- the integer constant that is spelled so; None where its form is not in, or its value passes 2^64 - 1
abbrev pub read_integer : List ℕ → Option Spelled
read_integer text = cond (is_hexadecimal text) (spelled_in 16 (drop 2 text)) (cond (begins_with_zero text) (spelled_in 8 text) (spelled_in 10 text))

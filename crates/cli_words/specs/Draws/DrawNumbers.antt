-- The number that a word of a draws file spells: decimal digits without leading zeros, behind a minus where it is
-- negative.
use Rattle.std.specs.Prelude.{◌≡◌, refl, codes, ℕ, ◌^◌, ◌-◌, ℤ, pos, ◌-ℤ◌, cond, ◌==◌, nat_le, [], ◌∷◌, Option, Some, None}
use Rattle.cli_words.specs.Numerals.{Bytes, plain_number}

-- the number of digits without leading zeros, below 2^64
abbrev pub magnitude : Bytes → Option ℕ
magnitude word = plain_number 64 word

abbrev pub positive : Option ℕ → Option ℤ
positive None = None
positive (Some n) = Some (pos n)

-- a negative number is at least -2^63
abbrev pub negative : Option ℕ → Option ℤ
negative None = None
negative (Some n) = cond (nat_le n (2 ^ 63)) (Some (pos 0 -ℤ pos n)) None

-- the number of a word
abbrev pub draw_of : Bytes → Option ℤ
draw_of [] = None
draw_of (c ∷ cs) = cond (c == 45) (negative (magnitude cs)) (positive (magnitude (c ∷ cs)))

-- the least and the greatest number, those beyond, and other forms
least : draw_of (codes "-9223372036854775808") ≡ Some (pos 0 -ℤ pos (2 ^ 63))
least = refl

too_small : draw_of (codes "-9223372036854775809") ≡ None
too_small = refl

greatest : draw_of (codes "18446744073709551615") ≡ Some (pos (2 ^ 64 - 1))
greatest = refl

too_great : draw_of (codes "18446744073709551616") ≡ None
too_great = refl

minus_zero : draw_of (codes "-0") ≡ Some (pos 0)
minus_zero = refl

leading_zero : draw_of (codes "065") ≡ None
leading_zero = refl

plus : draw_of (codes "+65") ≡ None
plus = refl

minus_alone : draw_of (codes "-") ≡ None
minus_alone = refl

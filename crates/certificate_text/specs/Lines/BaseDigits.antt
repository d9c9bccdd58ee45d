-- Sets of bases as hexadecimal numbers in lower case: bit k stands for base k.
use Rattle.std.specs.Prelude.{ℕ, zero, suc, ◌+◌, ◌-◌, ◌*◌, ◌/◌, ◌%◌, Bool, cond, ◌==◌, nat_lt, List, [], ◌∷◌, length, codes}
use Rattle.pointer_domain.specs.declared.base_sets.Bases.{Bases}
use Rattle.pointer_domain.specs.BaseSets.{no_base, bases_has, bases_with, bases_empty}
use Rattle.certificate_text.specs.Lines.LineWords.{Bytes}

unfoldable pub bit_value : Bases → ℕ → ℕ → ℕ
bit_value set base value = cond (bases_has set base) value 0

-- the digit at a place, which has four bases
unfoldable pub nibble : Bases → ℕ → ℕ
nibble set at = (bit_value set (at * 4) 1 + bit_value set (at * 4 + 1) 2) + (bit_value set (at * 4 + 2) 4 + bit_value set (at * 4 + 3) 8)

-- 0 to 9, then a to f
abbrev pub hex_digit : ℕ → ℕ
hex_digit digit = cond (nat_lt digit 10) (digit + 48) (digit + 87)

-- the least count of digits, of so many, without which all are 0
unfoldable pub used_below : Bases → ℕ → ℕ
used_below set zero = 0
used_below set (suc at) = cond (nibble set at == 0) (used_below set at) (suc at)

-- the digits at the places below a number, the highest first
abbrev pub digits_below : Bases → ℕ → Bytes
digits_below set zero = []
digits_below set (suc at) = hex_digit (nibble set at) ∷ digits_below set at

-- the digits of a set without leading zeros; sets hold the numbers below 1,016
unfoldable pub bases_text : Bases → Bytes
bases_text set = cond (bases_empty set) (codes "0") (digits_below set (used_below set 254))

-- what a byte is worth as a digit
abbrev pub hex_value : ℕ → ℕ
hex_value byte = cond (nat_lt byte 58) (byte - 48) (byte - 87)

unfoldable pub with_bit : Bases → ℕ → Bool → Bases
with_bit set base present = cond present (bases_with set base) set

-- the set with the bases of a digit, the first of which is given
unfoldable pub with_digit : Bases → ℕ → ℕ → Bases
with_digit set first value =
    with_bit (with_bit (with_bit (with_bit set first (value % 2 == 1)) (first + 1) (value / 2 % 2 == 1)) (first + 2) (value / 4 % 2 == 1)) (first + 3) (value / 8 % 2 == 1)

-- the set with the bases of the digit at a place
abbrev pub with_nibble : Bases → ℕ → ℕ → Bases
with_nibble set at value = cond (nat_lt at 254) (with_digit set (at * 4) value) set

-- the set with the bases of digits
abbrev pub bases_from : Bases → Bytes → Bases
bases_from set [] = set
bases_from set (c ∷ cs) = bases_from (with_nibble set (length cs) (hex_value c)) cs

abbrev pub bases_of : Bytes → Bases
bases_of word = bases_from no_base word

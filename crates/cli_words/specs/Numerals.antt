-- Decimal numbers without a sign and without leading zeros.
use Rattle.std.specs.Prelude.{◌≡◌, refl, codes, ℕ, ◌^◌, Bool, false, cond, ◌&&◌, nat_lt, List, [], ◌∷◌, Option, Some, None}
use Rattle.std.specs.Str.{all_ascii_digits}
use Rattle.std.specs.Str.Parse.{digits_value}

abbrev pub Bytes : Type 0
Bytes = List ℕ

-- digits, of which the first is not a zero where there are more
abbrev pub is_plain : Bytes → Bool
is_plain [] = false
is_plain (c ∷ []) = all_ascii_digits (c ∷ [])
is_plain (c ∷ (d ∷ ds)) = nat_lt 48 c && all_ascii_digits (c ∷ (d ∷ ds))

-- the number of such digits, below 2 ^ bits
abbrev pub plain_number : ℕ → Bytes → Option ℕ
plain_number bits word = cond (is_plain word && nat_lt (digits_value 10 word) (2 ^ bits)) (Some (digits_value 10 word)) None

zero_alone : plain_number 32 (codes "0") ≡ Some 0
zero_alone = refl

two_zeros : plain_number 32 (codes "00") ≡ None
two_zeros = refl

leading_zeros : plain_number 32 (codes "007") ≡ None
leading_zeros = refl

plus : plain_number 32 (codes "+5") ≡ None
plus = refl

minus : plain_number 32 (codes "-5") ≡ None
minus = refl

nothing : plain_number 32 [] ≡ None
nothing = refl

greatest : plain_number 32 (codes "4294967295") ≡ Some 4294967295
greatest = refl

too_great : plain_number 32 (codes "4294967296") ≡ None
too_great = refl

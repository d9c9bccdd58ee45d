-- What `parse` makes of digits without leading zeros.
use Rattle.std.proofs.Common.{◌≡◌, ◌<◌, ◌^◌, ℕ, Bool, true, false, ◌&&◌, nat_lt, List, [], ◌∷◌, length, None, Result, Ok, Err, refl, arith, lt-ltb, ltb-true, IsUtf8}
use Rattle.std.proofs.lemmas.Bool.{false≢true}
use Rattle.std.proofs.lemmas.Str.{IsUtf8-from_ascii}
use Rattle.std.proofs.lemmas.Fmt.{IsAscii-from_digits}
use Rattle.std.proofs.lemmas.Str.Parse.{IsNumeralModel, numerals_by_value, tells_all_ascii_digits, parse_digits}
use Rattle.std.specs.Result.{result_ok}
use Rattle.std.specs.Str.{all_ascii_digits}
use Rattle.std.specs.Str.Parse.{ParsesUnsigned, digits_value}
use Rattle.cli_words.specs.Numerals.{is_plain, plain_number}

own : IsNumeralModel (λ ds. all_ascii_digits ds ≡ true) (digits_value 10)
own = numerals_by_value (λ ds. all_ascii_digits ds ≡ true) tells_all_ascii_digits

second : (a b : Bool) → a && b ≡ true → b ≡ true
second true b h = h
second false b h = absurd (false≢true h)

plain_digits : (ds : List ℕ) → is_plain ds ≡ true → all_ascii_digits ds ≡ true
plain_digits [] h = absurd (false≢true h)
plain_digits (c ∷ []) h = h
plain_digits (c ∷ (d ∷ ds)) h = second (nat_lt 48 c) (all_ascii_digits (c ∷ (d ∷ ds))) h

plain_some : (ds : List ℕ) → is_plain ds ≡ true → 0 < length ds
plain_some [] h = absurd (false≢true h)
plain_some (c ∷ cs) h = omega arith

pub number_read : (E : Type 0) (bits : ℕ) (ds : List ℕ) (r : Result ℕ E) → is_plain ds ≡ true → ParsesUnsigned bits 10 ds r → result_ok r ≡ plain_number bits ds
number_read E bits ds (Ok n) p h =
    let got = parse_digits own {E = E} bits ds (Ok n) h (plain_digits ds p) in
    rw (p, lt-ltb (digits_value 10 ds) (2 ^ bits) got.0.1, got.1) refl
number_read E bits ds (Err e) p h = by (nat_lt (digits_value 10 ds) (2 ^ bits)) refl
  where
    by : (b : Bool) → nat_lt (digits_value 10 ds) (2 ^ bits) ≡ b → None ≡ plain_number bits ds
    by false t = rw (p, t) refl
    by true t = absurd (parse_digits own {E = E} bits ds (Err e) h (plain_digits ds p) (plain_some ds p, ltb-true _ _ t))

pub plain_text : (ds : List ℕ) → is_plain ds ≡ true → IsUtf8 ds
plain_text ds p = IsUtf8-from_ascii ds (IsAscii-from_digits ds (IsNumeralModel.to own ds (plain_digits ds p)))

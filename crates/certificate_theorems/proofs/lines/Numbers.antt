-- Decimal numbers and ranges are read back from their words.
use Rattle.std.proofs.Common.{◌≡◌, ◌∙◌, ◌+◌, ◌-◌, ◌*◌, ◌^◌, ◌<◌, ◌≤◌, ℕ, suc, min, true, false, cond, ◌==◌, nat_lt, [], ◌∷◌, ◌++◌, length, refl, ap, arith, length-append}
use Rattle.std.specs.Prelude.{ℤ, pos, negsuc, ◌-ℤ◌, ◌≤ℤ◌, int_le}
use Rattle.std.specs.Fmt.{decimal, signed_decimal}
use Rattle.std.specs.Char.{digit_value}
use Rattle.std.specs.Str.Parse.{AllDigits, IsNumeral, digits_value_after}
use Rattle.std.proofs.lemmas.Fmt.{decimal_is_IsNumeral_wide}
use Rattle.std.proofs.lemmas.Int.{ints, clamps}
use Rattle.std.proofs.lemmas.Str.Parse.{digit_from_value}
use Rattle.std.proofs.lemmas.Str.{digit_value_digit}
use Rattle.interval_domain.specs.Intervals.Spans.{between_or_empty, between_own}
use Rattle.interval_domain.specs.declared.intervals.intervals.Interval.{Interval}
use Rattle.interval_domain.specs.declared.intervals.intervals.Interval.TheVariants.{Bottom, Of}
use Rattle.certificate_text.specs.Lines.LineWords.{Bytes, until, behind, first_byte}
use Rattle.certificate_text.specs.Lines.DecimalWords.{cap, grown, magnitude, small, capped, number_of, range_of}
use Rattle.certificate_text.specs.Lines.CellTexts.{range_text}
use Rattle.certificate_theorems.specs.Lines.NearRanges.{IsNearNumber, IsNearRange}
use Rattle.certificate_theorems.proofs.lines.Words.{IsFreeOf, free_both, until_is, behind_is}

-- ---- digits

pub apart_below : (stop c : ℕ) → stop < 48 → 48 ≤ c → (c == stop) ≡ false
apart_below stop c h k = grind arith

pub apart_above : (stop c : ℕ) → 57 < stop → c ≤ 57 → (c == stop) ≡ false
apart_above stop c h k = grind arith

digits_free : (stop : ℕ) (apart : (c : ℕ) → 48 ≤ c → c ≤ 57 → (c == stop) ≡ false) (ds : Bytes) → AllDigits 10 ds → IsFreeOf stop ds
digits_free stop apart [] d = tt
digits_free stop apart (c ∷ cs) d = let k = digit_from_value c d.0 in (apart c k.0 k.1, digits_free stop apart cs d.1)

after_le : (n : ℕ) (ds : Bytes) → n ≤ digits_value_after 10 n ds
after_le n [] = omega arith
after_le n (c ∷ cs) = omega (arith, after_le (n * 10 + digit_value c) cs)

-- a number that is not cut is what its digits write
magnitude_is : (n : ℕ) (ds : Bytes) → AllDigits 10 ds → digits_value_after 10 n ds ≤ 2 ^ 68 → magnitude n ds ≡ digits_value_after 10 n ds
unfolding cap grown
magnitude_is n [] d h = refl
magnitude_is n (c ∷ cs) d h =
    let k = digit_from_value c d.0 in
    let v = digit_value_digit c k in
    let up = after_le (n * 10 + digit_value c) cs in
    let same : min n (2 ^ 68) * 10 + (c - 48) ≡ n * 10 + digit_value c = omega (arith, clamps) in
    ap (λ x. magnitude x cs) same ∙ magnitude_is (n * 10 + digit_value c) cs d.1 h

numeral : (n : ℕ) → n ≤ 2 ^ 68 → IsNumeral 10 (decimal n) × (digits_value_after 10 0 (decimal n) ≡ n)
numeral n h = decimal_is_IsNumeral_wide n (omega arith)

pub decimal_back : (n : ℕ) → n ≤ 2 ^ 68 → magnitude 0 (decimal n) ≡ n
decimal_back n h = let k = numeral n h in let e = k.1 in magnitude_is 0 (decimal n) k.0.1 (omega arith) ∙ e

-- of a position or a count
pub small_back : (n : ℕ) → n < 2 ^ 32 → small (decimal n) ≡ n
unfolding small
small_back n h = let e = decimal_back n (omega arith) in omega (arith, clamps)

pub decimal_free : (stop n : ℕ) → ((c : ℕ) → 48 ≤ c → c ≤ 57 → (c == stop) ≡ false) → n ≤ 2 ^ 68 → IsFreeOf stop (decimal n)
decimal_free stop n apart h = digits_free stop apart (decimal n) (numeral n h).0.1

-- ---- numbers with a sign

first_is : (ds : Bytes) → 0 < length ds → AllDigits 10 ds → (first_byte ds == 45) ≡ false
unfolding first_byte
first_is [] l d = absurd (omega arith)
first_is (c ∷ cs) l d = let k = digit_from_value c d.0 in apart_below 45 c (omega arith) k.0

capped_back : (n : ℕ) → n ≤ 2 ^ 68 → capped (decimal n) ≡ pos n
unfolding capped cap
capped_back n h = let e = decimal_back n h in let f : min (magnitude 0 (decimal n)) (2 ^ 68) ≡ n = omega (arith, clamps) in ap pos f

pub number_back : (z : ℤ) → IsNearNumber z → number_of (signed_decimal z) ≡ z
unfolding number_of first_byte
number_back (pos n) h =
    let top = h.greatest in
    let le : n ≤ 2 ^ 68 = omega (arith, ints) in
    let k = numeral n le in
    ap (λ b. cond b (pos 0 -ℤ capped (behind 45 (decimal n))) (capped (decimal n))) (first_is (decimal n) k.0.0 k.0.1) ∙ capped_back n le
number_back (negsuc n) h =
    let low = h.least in
    let le : suc n ≤ 2 ^ 68 = omega (arith, ints) in
    ap (λ w. pos 0 -ℤ capped w) (behind_is 45 [] (decimal (suc n)) tt) ∙ ap (λ x. pos 0 -ℤ x) (capped_back (suc n) le) ∙ omega (arith, ints)

pub signed_free : (stop : ℕ) (z : ℤ) → ((c : ℕ) → 48 ≤ c → c ≤ 57 → (c == stop) ≡ false) → (45 == stop) ≡ false → IsNearNumber z → IsFreeOf stop (signed_decimal z)
signed_free stop (pos n) apart minus h = let top = h.greatest in decimal_free stop n apart (omega (arith, ints))
signed_free stop (negsuc n) apart minus h = let low = h.least in (minus, decimal_free stop (suc n) apart (omega (arith, ints)))

signed_some : (z : ℤ) → IsNearNumber z → 0 < length (signed_decimal z)
signed_some (pos n) h = let top = h.greatest in (numeral n (omega (arith, ints))).0.0
signed_some (negsuc n) h = omega arith

-- ---- ranges

ordered_yes : (a b : ℤ) → a ≤ℤ b → int_le a b ≡ true
ordered_yes a b h = grind (arith, ints)

pub range_back : (x : Interval) → IsNearRange x → range_of (range_text x) ≡ x
unfolding range_of
range_back Bottom h = refl
range_back (Of s) h =
    let a = signed_decimal s.lo in
    let b = signed_decimal s.hi in
    let some = signed_some s.lo h.0 in
    let other = signed_some s.hi h.1 in
    let whole = length-append a (58 ∷ b) in
    let long : nat_lt (length (a ++ (58 ∷ b))) 3 ≡ false = grind arith in
    let colon = signed_free 58 s.lo (λ c l k. apart_above 58 c (omega arith) k) refl h.0 in
    ap (λ t. cond t Bottom (cond (int_le (number_of (until 58 (a ++ (58 ∷ b)))) (number_of (behind 58 (a ++ (58 ∷ b))))) (between_or_empty (number_of (until 58 (a ++ (58 ∷ b)))) (number_of (behind 58 (a ++ (58 ∷ b))))) Bottom)) long
    ∙ ap (λ y. cond (int_le y (number_of (behind 58 (a ++ (58 ∷ b))))) (between_or_empty y (number_of (behind 58 (a ++ (58 ∷ b))))) Bottom) (ap number_of (until_is 58 a b colon) ∙ number_back s.lo h.0)
    ∙ ap (λ y. cond (int_le s.lo y) (between_or_empty s.lo y) Bottom) (ap number_of (behind_is 58 a b colon) ∙ number_back s.hi h.1)
    ∙ ap (λ t. cond t (between_or_empty s.lo s.hi) Bottom) (ordered_yes s.lo s.hi s.ordered)
    ∙ between_own s

pub range_free : (stop : ℕ) (x : Interval) → ((c : ℕ) → 48 ≤ c → c ≤ 57 → (c == stop) ≡ false) → (45 == stop) ≡ false → (58 == stop) ≡ false → IsNearRange x → IsFreeOf stop (range_text x)
range_free stop Bottom apart minus colon h = (minus, tt)
range_free stop (Of s) apart minus colon h = free_both stop (signed_decimal s.lo) (58 ∷ signed_decimal s.hi) (signed_free stop s.lo apart minus h.0) (colon, signed_free stop s.hi apart minus h.1)

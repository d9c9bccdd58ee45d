-- Characters and literals that are spelled by bytes have codes that are bytes.
use Rattle.std.proofs.Common.{◌≡◌, ℕ, zero, suc, ◌+◌, ◌-◌, ◌<◌, ◌==◌, Bool, true, false, ◌&&◌, ◌||◌, cond, nat_lt, List, [], ◌∷◌, ◌++◌, length, Option, Some, None, take, drop, refl, sym, subst, arith, ap, ◌∙◌}
use Rattle.std.specs.Prelude.{min}
use Rattle.std.specs.List.{list_all}
use Rattle.std.specs.Option.{option_and_then}
use Rattle.std.proofs.lemmas.Bool.{ltb-true, lt-ltb, eqb-true, and_from}
use Rattle.std.proofs.lemmas.List.Folds.{list_all-append}
use Rattle.std.proofs.lemmas.Option.{option_and_then_some, same_Some}
use Rattle.c_parser_tokens.specs.CharacterCodes.{CharacterAt, with_rest, simple_escape, byte_with, numeric_of, numeric_escape, escape, first_character, without_last, inside, is_empty, codes_after, literal_bytes}
use Rattle.c_parser_tokens.specs.IntegerForms.{digit_count, magnitude, is_between}
use Rattle.source_preservation.proofs.checks.Truths.{both_true, either_true, no_some}
use Rattle.c_layout.specs.ByteTexts.{is_byte, are_bytes}

-- ---- parts of texts

bytes_taken : (n : ℕ) (s : List ℕ) → are_bytes s ≡ true → are_bytes (take n s) ≡ true
bytes_taken zero s h = refl
bytes_taken (suc n) [] h = refl
bytes_taken (suc n) (b ∷ s) h = let x = both_true (is_byte b) (are_bytes s) h in and_from (is_byte b) (are_bytes (take n s)) x.0 (bytes_taken n s x.1)

bytes_dropped : (n : ℕ) (s : List ℕ) → are_bytes s ≡ true → are_bytes (drop n s) ≡ true
bytes_dropped zero s h = h
bytes_dropped (suc n) [] h = refl
bytes_dropped (suc n) (b ∷ s) h = bytes_dropped n s (both_true (is_byte b) (are_bytes s) h).1

pub bytes_both : (s t : List ℕ) → are_bytes s ≡ true → are_bytes t ≡ true → are_bytes (s ++ t) ≡ true
bytes_both s t h g = list_all-append is_byte s t ∙ and_from (are_bytes s) (are_bytes t) h g

pub bytes_inside : (s : List ℕ) → are_bytes s ≡ true → are_bytes (inside s) ≡ true
bytes_inside [] h = refl
bytes_inside (a ∷ []) h = refl
bytes_inside (a ∷ (b ∷ s)) h = bytes_taken (length (b ∷ s) - 1) (b ∷ s) (both_true (is_byte a) (are_bytes (b ∷ s)) h).1

-- ---- characters

pub record IsByteCharacter (c : CharacterAt) : Type 0 where
  pub code : is_byte c.code ≡ true
  pub rest : are_bytes c.rest ≡ true

made : (rest : List ℕ) (code : ℕ) (c : CharacterAt) → is_byte code ≡ true → are_bytes rest ≡ true → with_rest rest code ≡ Some c → IsByteCharacter c
made rest code c h g is = subst IsByteCharacter (same_Some (record { code = code; rest = rest }) c is) (record { code = h; rest = g })

-- a number of an escape has to be a byte
made_if : (b : Bool) (rest : List ℕ) (code : ℕ) (c : CharacterAt) → nat_lt code 256 ≡ b → are_bytes rest ≡ true → cond b (with_rest rest code) None ≡ Some c → IsByteCharacter c
made_if true rest code c is g h = made rest code c is g h
made_if false rest code c is g h = no_some c h

numeric_byte : (base count : ℕ) (s : List ℕ) (c : CharacterAt) → are_bytes s ≡ true → numeric_of base count s ≡ Some c → IsByteCharacter c
numeric_byte base count s c h is = by (count == 0) is
  where
    by : (b : Bool) → cond b None (option_and_then (byte_with (drop count s)) (magnitude base (take count s))) ≡ Some c → IsByteCharacter c
    by true e = no_some c e
    by false e = option_and_then_some (byte_with (drop count s)) (magnitude base (take count s)) c e (λ n found e1. made_if (nat_lt n 256) (drop count s) n c refl (bytes_dropped count s h) e1)

-- the code of a simple escape is the letter itself, or a small number
simple_byte : (b n : ℕ) → is_byte b ≡ true → simple_escape b ≡ Some n → is_byte n ≡ true
simple_byte b n h is = by_own (b == 39 || b == 34 || b == 63 || b == 92) is
  where
    small : (k : ℕ) → is_byte k ≡ true → Some k ≡ Some n → is_byte n ≡ true
    small k g e = subst (λ x. is_byte x ≡ true) (same_Some k n e) g

    next : (t : Bool) (k : ℕ) (other : Option ℕ) → is_byte k ≡ true → (other ≡ Some n → is_byte n ≡ true) → cond t (Some k) other ≡ Some n → is_byte n ≡ true
    next true k other g f e = small k g e
    next false k other g f e = f e

    by_own : (t : Bool) → cond t (Some b) (cond (b == 97) (Some 7) (cond (b == 98) (Some 8) (cond (b == 102) (Some 12) (cond (b == 110) (Some 10) (cond (b == 114) (Some 13) (cond (b == 116) (Some 9) (cond (b == 118) (Some 11) None))))))) ≡ Some n → is_byte n ≡ true
    by_own true e = small b h e
    by_own false e =
        next (b == 97) 7 _ refl (next (b == 98) 8 _ refl (next (b == 102) 12 _ refl (next (b == 110) 10 _ refl (next (b == 114) 13 _ refl (next (b == 116) 9 _ refl (next (b == 118) 11 None refl (λ none. no_some n none))))))) e

escape_byte : (s : List ℕ) (c : CharacterAt) → are_bytes s ≡ true → escape s ≡ Some c → IsByteCharacter c
escape_byte [] c h is = no_some c is
escape_byte (b ∷ s) c h is = by_hexadecimal (b == 120) is
  where
    parts : (is_byte b ≡ true) × (are_bytes s ≡ true)
    parts = both_true (is_byte b) (are_bytes s) h

    by_octal : (t : Bool) → cond t (numeric_escape 8 3 (b ∷ s)) (option_and_then (with_rest s) (simple_escape b)) ≡ Some c → IsByteCharacter c
    by_octal true e = numeric_byte 8 (min (digit_count 8 (b ∷ s)) 3) (b ∷ s) c h e
    by_octal false e = option_and_then_some (with_rest s) (simple_escape b) c e (λ n found e1. made s n c (simple_byte b n parts.0 found) parts.1 e1)

    by_hexadecimal : (t : Bool) → cond t (numeric_escape 16 (length s) s) (cond (is_between 48 55 b) (numeric_escape 8 3 (b ∷ s)) (option_and_then (with_rest s) (simple_escape b))) ≡ Some c → IsByteCharacter c
    by_hexadecimal true e = numeric_byte 16 (min (digit_count 16 s) (length s)) s c parts.1 e
    by_hexadecimal false e = by_octal (is_between 48 55 b) e

pub character_byte : (s : List ℕ) (c : CharacterAt) → are_bytes s ≡ true → first_character s ≡ Some c → IsByteCharacter c
character_byte [] c h is = no_some c is
character_byte (b ∷ s) c h is = by (b == 92) is
  where
    parts : (is_byte b ≡ true) × (are_bytes s ≡ true)
    parts = both_true (is_byte b) (are_bytes s) h

    by : (t : Bool) → cond t (escape s) (with_rest s b) ≡ Some c → IsByteCharacter c
    by true e = escape_byte s c parts.1 e
    by false e = made s b c parts.0 parts.1 e

-- ---- literals

codes_bytes : (n : ℕ) (before s codes : List ℕ) → are_bytes before ≡ true → are_bytes s ≡ true → codes_after n before s ≡ Some codes → are_bytes codes ≡ true
codes_bytes zero before s codes h g is = subst (λ t. are_bytes t ≡ true) (same_Some before codes is) h
codes_bytes (suc n) before s codes h g is = by (λ c e x. codes_bytes n (before ++ (c.code ∷ [])) c.rest codes (bytes_both before (c.code ∷ []) h (and_from (is_byte c.code) true x.code refl)) x.rest e) (is_empty s) is
  where
    more : CharacterAt → Option (List ℕ)
    more found = codes_after n (before ++ (found.code ∷ [])) found.rest

    by : ((c : CharacterAt) → more c ≡ Some codes → IsByteCharacter c → are_bytes codes ≡ true) → (t : Bool) → cond t (Some before) (option_and_then more (first_character s)) ≡ Some codes → are_bytes codes ≡ true
    by next true e = subst (λ t. are_bytes t ≡ true) (same_Some before codes e) h
    by next false e = option_and_then_some more (first_character s) codes e (λ c found e1. next c e1 (character_byte s c g found))

pub literal_is_of_bytes : (s codes : List ℕ) → are_bytes s ≡ true → literal_bytes s ≡ Some codes → are_bytes codes ≡ true
literal_is_of_bytes s codes h is = codes_bytes (length s) [] (inside s) codes refl (bytes_inside s h) is

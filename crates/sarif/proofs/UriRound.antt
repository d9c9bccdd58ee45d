-- A file name is what its uri stands for.
use Rattle.std.proofs.Common.{◌≡◌, ◌<◌, ◌/◌, ◌%◌, ◌==◌, ℕ, zero, suc, Bool, true, false, cond, not, ◌&&◌, [], ◌∷◌, ◌++◌, Option, Some, None, option_map, option_and_then, refl, sym, ap, ◌∙◌, arith, All, IsUtf8, inl, inr, eqb-true}
use Rattle.std.proofs.lemmas.Bool.{and_parts, cases_eq}
use Rattle.std.proofs.lemmas.List.Elements.{All-head, All-tail}
use Rattle.std.proofs.lemmas.Str.{IsUtf8-append, IsUtf8-nil}
use Rattle.json.proofs.Printed.Utf8.{are_ascii, IsUtf8-are_ascii}
use Rattle.sarif.specs.Uris.{Bytes, is_plain, hex_digit, escaped, uri_of, hex_pair, uri_bytes}

-- each number below another one passes a test
abbrev each_below : (ℕ → Bool) → ℕ → Bool
each_below test zero = true
each_below test (suc n) = test n && each_below test n

of_below : (test : ℕ → Bool) (n : ℕ) → each_below test n ≡ true → (x : ℕ) → x < n → test x ≡ true
of_below test zero e x h = absurd (omega arith)
of_below test (suc n) e x h =
    let p = and_parts _ _ e in
    elim (cases_eq x n) [ inl same ↦ rw same p.0 | inr other ↦ of_below test n p.1 x (omega arith) ]

abbrev is_some_of : Option ℕ → ℕ → Bool
is_some_of None n = false
is_some_of (Some m) n = m == n

some_of : (o : Option ℕ) (n : ℕ) → is_some_of o n ≡ true → o ≡ Some n
some_of None n e = cc
some_of (Some m) n e = ap Some (eqb-true m n e)

-- a plain byte is no %, and the digits of any other one are read as it
abbrev is_read_back : ℕ → Bool
is_read_back byte = cond (is_plain byte) (not (byte == 37)) (is_some_of (hex_pair (hex_digit (byte / 16)) (hex_digit (byte % 16))) byte)

is_false : (b : Bool) → not b ≡ true → b ≡ false
is_false true e = sym e
is_false false e = refl

byte_read : (byte : ℕ) (rest : Bytes) → byte < 256 → uri_bytes (escaped byte ++ rest) ≡ option_map (λ bytes. byte ∷ bytes) (uri_bytes rest)
byte_read byte rest h =
    elim (is_plain byte) as (λ b. cond b (not (byte == 37)) (is_some_of (hex_pair (hex_digit (byte / 16)) (hex_digit (byte % 16))) byte) ≡ true
    → uri_bytes (cond b (byte ∷ []) (37 ∷ (hex_digit (byte / 16) ∷ (hex_digit (byte % 16) ∷ []))) ++ rest) ≡ option_map (λ bytes. byte ∷ bytes) (uri_bytes rest)) [
      | true ↦ λ e. rw (is_false (byte == 37) e) refl
      | false ↦ λ e. ap (option_and_then (λ b. option_map (λ bytes. b ∷ bytes) (uri_bytes rest))) (some_of _ byte e)
    ] (of_below is_read_back 256 refl byte h)

pub uri_read_back : (name : Bytes) → All (λ b. b < 256) name → uri_bytes (uri_of name) ≡ Some name
uri_read_back [] h = refl
uri_read_back (byte ∷ name) h =
    byte_read byte (uri_of name) (All-head (λ b. b < 256) byte name h) ∙ ap (option_map (λ bytes. byte ∷ bytes)) (uri_read_back name (All-tail (λ b. b < 256) byte name h))

pub uri_is_utf8 : (name : Bytes) → All (λ b. b < 256) name → IsUtf8 (uri_of name)
uri_is_utf8 [] h = IsUtf8-nil
uri_is_utf8 (byte ∷ name) h =
    IsUtf8-append (escaped byte) (uri_of name) (IsUtf8-are_ascii (escaped byte) (of_below (λ b. are_ascii (escaped b)) 256 refl byte (All-head (λ b. b < 256) byte name h))) (uri_is_utf8 name (All-tail (λ b. b < 256) byte name h))

-- Turns of the loop that reads the characters of a string literal.
use Rattle.std.proofs.Common.{◌≡◌, ℕ, zero, suc, ◌+◌, ◌-◌, ◌<◌, Bool, true, false, ◌==◌, List, [], ◌∷◌, ◌++◌, length, Option, Some, None, refl, sym, ap, ◌∙◌, arith, option_and_then}
use Rattle.c_parser_tokens.specs.CharacterCodes.{CharacterAt, first_character, codes_after}

fail_step : (k : ℕ) (before rest : List ℕ) → false ≡ (length rest == 0) → None ≡ first_character rest → codes_after (suc k) before rest ≡ None
fail_step k before [] some none = cc
fail_step k before (b ∷ s) some none = sym (ap (option_and_then (λ (found : CharacterAt). codes_after k (before ++ (found.code ∷ [])) found.rest)) none)

next_step : (k : ℕ) (before rest : List ℕ) (found : CharacterAt) → Some found ≡ first_character rest → codes_after (suc k) before rest ≡ codes_after k (before ++ (found.code ∷ [])) found.rest
next_step k before [] found some = cc
next_step k before (b ∷ s) found some = sym (ap (option_and_then (λ (next : CharacterAt). codes_after k (before ++ (next.code ∷ [])) next.rest)) some)

pub codes_fail : (n at : ℕ) (before rest : List ℕ) → at < n → false ≡ (length rest == 0) → None ≡ first_character rest → codes_after (n - at) before rest ≡ None
codes_fail n at before rest low some none =
    let turn : n - at ≡ suc (n - (at + 1)) = omega arith in
    rw turn (fail_step (n - (at + 1)) before rest some none)

pub codes_next : (n at : ℕ) (before after rest : List ℕ) (found : CharacterAt) → at < n → Some found ≡ first_character rest → after ≡ before ++ (found.code ∷ []) →
    codes_after (n - at) before rest ≡ codes_after (n - (at + 1)) after found.rest
codes_next n at before after rest found low some after-is =
    let turn : n - at ≡ suc (n - (at + 1)) = omega arith in
    rw (turn, after-is) (next_step (n - (at + 1)) before rest found some)

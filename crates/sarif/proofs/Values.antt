-- Bytes that no value is.
use Rattle.std.proofs.Common.{◌≡◌, ℕ, List, true, false, cond, refl, sym, IsUtf8, Some, None, Result, Ok, Err, is_ok, MatchResult}
use Rattle.std.specs.Str.{is_utf8}
use Rattle.std.proofs.lemmas.Str.{IsUtf8-from_is_utf8, is_utf8-from_IsUtf8}
use Rattle.serde_json.specs.Data.{Data}
use Rattle.serde_json.specs.Read.{read}
use Rattle.sarif.specs.Baselines.{value_of}

pub value_read : (bytes : List ℕ) (d : Data) → IsUtf8 bytes → read bytes ≡ Some d → value_of bytes ≡ Some d
value_read bytes d u r = rw (is_utf8-from_IsUtf8 bytes u) r

pub value_none : (bytes : List ℕ) → (IsUtf8 bytes → read bytes ≡ None) → value_of bytes ≡ None
value_none bytes h =
    elim (is_utf8 bytes) as (λ b. is_utf8 bytes ≡ b → cond b (read bytes) None ≡ None)
    [ true ↦ λ e. h (IsUtf8-from_is_utf8 bytes e) | false ↦ λ e. refl ] refl

pub not_utf8 : (bytes : List ℕ) → (IsUtf8 bytes → ⊥) → is_utf8 bytes ≡ false
not_utf8 bytes h =
    elim (is_utf8 bytes) as (λ b. is_utf8 bytes ≡ b → b ≡ false)
    [ true ↦ λ e. absurd (h (IsUtf8-from_is_utf8 bytes e)) | false ↦ λ e. refl ] refl

-- what a test for UTF-8 answers
pub utf8_tested : {A E : Type 0} (r : Result A E) (bytes : List ℕ) → MatchResult r (λ s. IsUtf8 bytes) (λ e. IsUtf8 bytes → ⊥) → is_ok r ≡ is_utf8 bytes
utf8_tested (Ok s) bytes h = sym (is_utf8-from_IsUtf8 bytes h)
utf8_tested (Err e) bytes h = sym (not_utf8 bytes h)

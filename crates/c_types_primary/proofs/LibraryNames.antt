-- What is no text is not the name of a library function.
use Rattle.std.proofs.Common.{◌≡◌, ◌<◌, ℕ, List, [], ◌∷◌, Bool, true, false, ◌&&◌, Some, None, if◌then◌else◌, bytes_eq, nat_lt, refl, sym, subst, ap, ◌∙◌, arith, IsUtf8, IsAscii}
use Rattle.std.proofs.lemmas.Bool.{false≢true, and_parts}
use Rattle.std.proofs.lemmas.Bool.Decides.{nat_tests}
use Rattle.std.proofs.lemmas.Str.{IsUtf8-from_ascii}
use Rattle.std.proofs.lemmas.Str.Ascii.{IsAscii-nil, IsAscii-cons}
use Rattle.std.proofs.lemmas.Slice.Eq.{bytes_eq-Decides}
use Rattle.std.specs.List.{list_all, find}
use Rattle.c_layout.specs.LibrarySignatures.{signature_of}
use Rattle.c_layout.specs.declared.library_functions.LibFn.{LibFn}
use Rattle.c_library.specs.Headers.Library.{all_functions, function_named}

-- whether each byte is below 128
abbrev all_low : List ℕ → Bool
all_low [] = true
all_low (b ∷ bs) = nat_lt b 128 && all_low bs

low_first : (b : ℕ) (bs : List ℕ) → (all_low bs ≡ true → IsAscii bs) → (t : Bool) → nat_lt b 128 ≡ t → t && all_low bs ≡ true → IsAscii (b ∷ bs)
low_first b bs others true is h = IsAscii-cons b bs (let low : b < 128 = grind (arith, nat_tests) in low) (others h)
low_first b bs others false is h = absurd (false≢true h)

low_ascii : (bs : List ℕ) → all_low bs ≡ true → IsAscii bs
low_ascii [] h = IsAscii-nil
low_ascii (b ∷ bs) h = low_first b bs (low_ascii bs) (nat_lt b 128) refl h

told : (bytes text : List ℕ) → all_low text ≡ true → ¬ IsUtf8 bytes → (b : Bool) → bytes_eq bytes text ≡ b → b ≡ false
told bytes text is never true e = absurd (never (subst IsUtf8 (sym ((bytes_eq-Decides bytes text).0 e)) (IsUtf8-from_ascii text (low_ascii text is))))
told bytes text is never false e = refl

none_named : (bytes : List ℕ) → ¬ IsUtf8 bytes → (functions : List LibFn) → list_all (λ f. all_low (signature_of f).name) functions ≡ true → find (λ f. bytes_eq bytes (signature_of f).name) functions ≡ None
none_named bytes never [] low = refl
none_named bytes never (f ∷ functions) low =
    let parts = and_parts (all_low (signature_of f).name) (list_all (λ g. all_low (signature_of g).name) functions) low in
    ap (λ b. if b then Some f else find (λ g. bytes_eq bytes (signature_of g).name) functions) (told bytes (signature_of f).name parts.0 never (bytes_eq bytes (signature_of f).name) refl)
    ∙ none_named bytes never functions parts.1

pub no_text_none : (bytes : List ℕ) → ¬ IsUtf8 bytes → function_named bytes ≡ None
no_text_none bytes never = none_named bytes never all_functions refl

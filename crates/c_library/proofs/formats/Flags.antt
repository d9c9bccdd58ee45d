-- Flags and widths of a conversion, byte by byte.
use Rattle.std.proofs.Common.{◌≡◌, ◌≤◌, ◌+◌, ℕ, true, false, cond, List, [], ◌∷◌, length, refl, sym, ◌∙◌, ap, arith}
use Rattle.std.specs.Char.{is_ascii_digit}
use Rattle.c_library.specs.Formats.PrintfFormats.{is_flag, behind_flags, behind_width}

pub flag_passes : (b : ℕ) (more text : List ℕ) → is_flag b ≡ true → behind_flags (b ∷ more) ≡ behind_flags text → behind_flags more ≡ behind_flags text
unfolding behind_flags
flag_passes b more text is before = sym (ap (λ c. cond c (behind_flags more) (b ∷ more)) is) ∙ before

pub flag_stays : (b : ℕ) (more text : List ℕ) → is_flag b ≡ false → behind_flags (b ∷ more) ≡ behind_flags text → b ∷ more ≡ behind_flags text
unfolding behind_flags
flag_stays b more text is before = sym (ap (λ c. cond c (behind_flags more) (b ∷ more)) is) ∙ before

pub flags_none : (text : List ℕ) → behind_flags [] ≡ behind_flags text → [] ≡ behind_flags text
unfolding behind_flags
flags_none text before = before

pub flags_over : (rest text : List ℕ) (turn : ℕ) → length rest + turn ≡ length text → length text ≤ turn → behind_flags rest ≡ behind_flags text → rest ≡ behind_flags text
unfolding behind_flags
flags_over [] text turn e all before = before
flags_over (b ∷ rest) text turn e all before = absurd (omega (arith, e, all))

pub digit_passes : (b : ℕ) (more text : List ℕ) → is_ascii_digit b ≡ true → behind_width (b ∷ more) ≡ behind_width text → behind_width more ≡ behind_width text
unfolding behind_width
digit_passes b more text is before = sym (ap (λ c. cond c (behind_width more) (b ∷ more)) is) ∙ before

pub digit_stays : (b : ℕ) (more text : List ℕ) → is_ascii_digit b ≡ false → behind_width (b ∷ more) ≡ behind_width text → b ∷ more ≡ behind_width text
unfolding behind_width
digit_stays b more text is before = sym (ap (λ c. cond c (behind_width more) (b ∷ more)) is) ∙ before

pub width_none : (text : List ℕ) → behind_width [] ≡ behind_width text → [] ≡ behind_width text
unfolding behind_width
width_none text before = before

pub width_over : (rest text : List ℕ) (turn : ℕ) → length rest + turn ≡ length text → length text ≤ turn → behind_width rest ≡ behind_width text → rest ≡ behind_width text
unfolding behind_width
width_over [] text turn e all before = before
width_over (b ∷ rest) text turn e all before = absurd (omega (arith, e, all))

-- Classes of characters (7.4) in the "C" locale.
use Rattle.std.specs.Prelude.{ℤ, pos, int_le, Bool, ◌&&◌, ◌||◌, Option, Some, None}
use Rattle.std.specs.Ordering.{int_eq}
use Rattle.c_layout.specs.LibrarySignatures.{signature_of}
use Rattle.c_layout.specs.declared.library_functions.LibFn.{LibFn}
use Rattle.c_layout.specs.declared.library_signatures.CharacterClass.{CharacterClass}
use Rattle.c_layout.specs.declared.library_signatures.CharacterClass.TheVariants as class

abbrev pub lies_in : ℤ → ℤ → ℤ → Bool
lies_in lo hi c = int_le lo c && int_le c hi

abbrev pub is_lower : ℤ → Bool
is_lower c = lies_in (pos 97) (pos 122) c

abbrev pub is_upper : ℤ → Bool
is_upper c = lies_in (pos 65) (pos 90) c

abbrev pub is_digit : ℤ → Bool
is_digit c = lies_in (pos 48) (pos 57) c

abbrev pub is_space : ℤ → Bool
is_space c = int_eq c (pos 32) || lies_in (pos 9) (pos 13) c

abbrev pub is_letter_or_digit : ℤ → Bool
is_letter_or_digit c = is_lower c || (is_upper c || is_digit c)

-- letters and digits are asked for where no other class is tested
abbrev pub in_class : Option CharacterClass → ℤ → Bool
in_class (Some class.Letter) c = is_lower c || is_upper c
in_class (Some class.Digit) c = is_digit c
in_class (Some class.Space) c = is_space c
in_class (Some class.Upper) c = is_upper c
in_class (Some class.Lower) c = is_lower c
in_class (Some class.LetterOrDigit) c = is_letter_or_digit c
in_class (Some class.ToUpper) c = is_letter_or_digit c
in_class (Some class.ToLower) c = is_letter_or_digit c
in_class None c = is_letter_or_digit c

-- whether a character is of the class that a function tests
abbrev pub has_class : LibFn → ℤ → Bool
has_class function c = in_class (signature_of function).character c

-- Worked rows of the definitions.
use Rattle.std.specs.Prelude.{◌≡◌, ℕ, refl, Some, None, [], ◌∷◌}
use Rattle.memory_model.specs.Memory.Labels.{no_labels}
use Rattle.memory_model.specs.Memory.Bytes.{indeterminate, number, part, null, Byte}
use Rattle.store_sound.specs.Concretization.FirstZeroBytes.{first_zero}

abbrev plain : ℕ → Byte
plain n = record { content = number n no_labels; tag = None }

-- the text "ab", and what stands where a byte is indeterminate before a zero
text : first_zero (plain 97 ∷ (plain 98 ∷ (plain 0 ∷ (plain 0 ∷ [])))) ≡ Some 2
text = refl

blank_first : first_zero (plain 97 ∷ (record { content = indeterminate; tag = None } ∷ (plain 0 ∷ []))) ≡ None
blank_first = refl

-- a part of a null pointer is no zero
pointer_first : first_zero (record { content = part null 0; tag = None } ∷ (plain 0 ∷ [])) ≡ Some 1
pointer_first = refl

no_zero : first_zero (plain 1 ∷ []) ≡ None
no_zero = refl

-- Without arrays that stand apart the law on texts that are appended is false. Of the bytes 'a' 0 'b' 0 0 let all be
-- one array and those from the third on another, and let "c" be appended to "b": the rule adds its length to both first
-- zeros, but that of the first array stays where it is.
use Rattle.std.proofs.Common.{◌≡◌, ℕ, ◌+◌, Some, None, List, [], ◌∷◌, drop, refl}
use Rattle.memory_model.specs.Memory.Labels.{no_labels}
use Rattle.memory_model.specs.Memory.Bytes.{number, Byte}
use Rattle.store_sound.specs.Concretization.FirstZeroBytes.{first_zero}

abbrev byte : ℕ → Byte
byte n = record { content = number n no_labels; tag = None }

abbrev before : List Byte
before = byte 97 ∷ (byte 0 ∷ (byte 98 ∷ (byte 0 ∷ (byte 0 ∷ []))))

abbrev behind : List Byte
behind = byte 97 ∷ (byte 0 ∷ (byte 98 ∷ (byte 99 ∷ (byte 0 ∷ []))))

inner_was : first_zero (drop 2 before) ≡ Some 1
inner_was = refl

inner_grows : first_zero (drop 2 behind) ≡ Some (1 + 1)
inner_grows = refl

outer_was : first_zero before ≡ Some 1
outer_was = refl

outer_stays : first_zero behind ≡ Some 1
outer_stays = refl

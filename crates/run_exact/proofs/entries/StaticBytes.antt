-- Contents that are written into bytes change no tag and no length.
use Rattle.std.proofs.Common.{◌≡◌, ℕ, zero, suc, List, [], ◌∷◌, length, Some, refl, sym, ap}
use Rattle.std.specs.Prelude.{slice_get}
use Rattle.std.proofs.lemmas.Option.{same_Some}
use Rattle.memory_model.specs.Memory.Bytes.{Content, Byte}
use Rattle.memory_model.specs.Effects.ScalarBytes.{filled, refilled}

-- a byte of the one list has the tag of the byte there in the other one
abbrev IsTagged : List Byte → ℕ → Byte → Type 0
IsTagged bytes at x = (was : Byte) × (slice_get bytes at ≡ Some was) × (x.tag ≡ was.tag)

filled_tags : (bytes : List Byte) (cs : List Content) (at : ℕ) (x : Byte) → slice_get (filled bytes cs) at ≡ Some x → IsTagged bytes at x
filled_tags [] [] at x e = cc
filled_tags [] (c ∷ cs) at x e = cc
filled_tags (b ∷ bs) [] at x e = (x, e, refl)
filled_tags (b ∷ bs) (c ∷ cs) zero x e = (b, refl, sym (ap (λ z. z.tag) (same_Some (record b { content = c }) x e)))
filled_tags (b ∷ bs) (c ∷ cs) (suc at) x e = filled_tags bs cs at x e

pub refilled_tags : (offset : ℕ) (bytes : List Byte) (cs : List Content) (at : ℕ) (x : Byte) → slice_get (refilled bytes offset cs) at ≡ Some x → IsTagged bytes at x
refilled_tags zero bytes cs at x e = filled_tags bytes cs at x e
refilled_tags (suc offset) [] cs at x e = filled_tags [] cs at x e
refilled_tags (suc offset) (b ∷ bs) cs zero x e = (b, refl, sym (ap (λ z. z.tag) (same_Some b x e)))
refilled_tags (suc offset) (b ∷ bs) cs (suc at) x e = refilled_tags offset bs cs at x e

filled_long : (bytes : List Byte) (cs : List Content) → length (filled bytes cs) ≡ length bytes
filled_long [] [] = refl
filled_long [] (c ∷ cs) = refl
filled_long (b ∷ bs) [] = refl
filled_long (b ∷ bs) (c ∷ cs) = ap suc (filled_long bs cs)

pub refilled_long : (offset : ℕ) (bytes : List Byte) (cs : List Content) → length (refilled bytes offset cs) ≡ length bytes
refilled_long zero bytes cs = filled_long bytes cs
refilled_long (suc offset) [] cs = filled_long [] cs
refilled_long (suc offset) (b ∷ bs) cs = ap suc (refilled_long offset bs cs)

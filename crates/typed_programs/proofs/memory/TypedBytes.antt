-- Pointers in the bytes of one instance, and memory in which one instance has other bytes.
use Rattle.std.proofs.Common.{◌≡◌, inl, inr, ℕ, zero, suc, ◌+◌, Option, Some, None, List, [], ◌∷◌, ◌++◌, length, take, refl, sym, ap, ◌∙◌, subst, arith}
use Rattle.std.specs.Prelude.{slice_get, set}
use Rattle.std.proofs.lemmas.Bool.{cases_eq}
use Rattle.std.proofs.lemmas.List.{length-set}
use Rattle.std.proofs.lemmas.Option.{same_Some, slice_get_within}
use Rattle.c_layout.specs.StructViews.{StructView}
use Rattle.c_layout.specs.Types.{Ty, Pointer}
use Rattle.memory_model.specs.Memory.Bytes.{MachinePointer, null, into, Content, indeterminate, number, part, Byte}
use Rattle.memory_model.specs.Memory.Labels.{Labels, no_labels}
use Rattle.memory_model.specs.Memory.Instances.{Instance, Memory, bytes_of, bytes_at}
use Rattle.memory_model.specs.Effects.Worlds.{World, with_memory}
use Rattle.memory_model.specs.Effects.ObjectEffects.{characters}
use Rattle.memory_model.specs.Effects.ScalarBytes.{number_bytes, pointer_bytes, refilled}
use Rattle.memory_model.specs.Effects.Touches.{storage_of, storage_at, with_bytes, set_bytes}
use Rattle.store_sound.proofs.operations.Slices.{get_take, get_set_same, get_set_other}
use Rattle.run_exact.proofs.StartBytes.{numbers_at, parts_at, refilled_at}
use Rattle.typed_programs.specs.Types.TypeBytes.{scalar_byte}
use Rattle.typed_programs.specs.Types.PointedTypes.{Element, Points}
use Rattle.typed_programs.specs.Types.TypedStates.{IsTypedMemory}
use Rattle.typed_programs.specs.Types.EffectLaws.{KeepsTypes}

-- ---- contents that are no pointers

abbrev pub IsNoPart : Content → Type 0
IsNoPart (part p k) = ⊥
IsNoPart indeterminate = Unit {0}
IsNoPart (number n labels) = Unit {0}

pub no_part : (c : Content) (p : MachinePointer) (k : ℕ) → IsNoPart c → c ≡ part p k → ⊥
no_part c p k other is = subst IsNoPart is other

abbrev part_of : Content → MachinePointer
part_of (part p k) = p
part_of indeterminate = null
part_of (number n labels) = null

abbrev part_number : Content → ℕ
part_number (part p k) = k
part_number indeterminate = 0
part_number (number n labels) = 0

-- a text has none
pub text_plain : {A : Type 0} (text : List ℕ) (k : ℕ) (c : Content) (p : MachinePointer) (n : ℕ) → slice_get (characters text ++ number 0 no_labels ∷ []) k ≡ Some c → c ≡ part p n → A
text_plain [] zero c p n there is = absurd (no_part (number 0 no_labels) p n tt (same_Some (number 0 no_labels) c there ∙ is))
text_plain [] (suc k) c p n there is = absurd (cc)
text_plain (x ∷ text) zero c p n there is = absurd (no_part (number x no_labels) p n tt (same_Some (number x no_labels) c there ∙ is))
text_plain (x ∷ text) (suc k) c p n there is = text_plain text k c p n there is

-- ---- other bytes of one instance

changed_bytes : (o : Option Instance) (memory : Memory) (i : ℕ) (bytes : List Byte) → slice_get memory i ≡ o → (P : ℕ → List Byte → Type 0) → ((j : ℕ) → P j (bytes_at memory j)) → P i bytes → (j : ℕ) → P j (bytes_at (with_bytes o bytes memory i) j)
changed_bytes None memory i bytes is P old new j = old j
changed_bytes (Some it) memory i bytes is P old new j = elim (cases_eq j i) [
  | inl same ↦ (let here : bytes_at (set memory i (record it { bytes = bytes })) i ≡ bytes = ap bytes_of (get_set_same memory i (record it { bytes = bytes }) (slice_get_within memory i it is)) in
      subst (λ k. P k (bytes_at (set memory i (record it { bytes = bytes })) k)) (sym same) (subst (P i) (sym here) new))
  | inr other ↦ (let there : bytes_at (set memory i (record it { bytes = bytes })) j ≡ bytes_at memory j = ap bytes_of (get_set_other memory i j (record it { bytes = bytes }) other) in
      subst (P j) (sym there) (old j))
]

changed_long : (o : Option Instance) (memory : Memory) (i : ℕ) (bytes : List Byte) → length (with_bytes o bytes memory i) ≡ length memory
changed_long None memory i bytes = refl
changed_long (Some it) memory i bytes = length-set memory i (record it { bytes = bytes })

changed_storages : (o : Option Instance) (memory : Memory) (i : ℕ) (bytes : List Byte) → slice_get memory i ≡ o → (j : ℕ) → storage_at (with_bytes o bytes memory i) j ≡ storage_at memory j
changed_storages None memory i bytes is j = refl
changed_storages (Some it) memory i bytes is j = elim (cases_eq j i) [
  | inl same ↦ (let here : storage_at (set memory i (record it { bytes = bytes })) i ≡ storage_at memory i = ap storage_of (get_set_same memory i (record it { bytes = bytes }) (slice_get_within memory i it is)) ∙ sym (ap storage_of is) in
      subst (λ k. storage_at (set memory i (record it { bytes = bytes })) k ≡ storage_at memory k) (sym same) here)
  | inr other ↦ ap storage_of (get_set_other memory i j (record it { bytes = bytes }) other)
]

module _ (structs : List StructView) (pointer_size : ℕ) (types : ℕ → Option Ty) where
  -- pointers among bytes of an object of a type point to what it says
  abbrev pub AreTypedBytes : Ty → List Byte → Type 0
  AreTypedBytes outer bytes = (offset : ℕ) (t : Ty) (b : Byte) (p : MachinePointer) → slice_get bytes offset ≡ Some b → b.content ≡ part p 0 → scalar_byte structs pointer_size outer offset ≡ Some (record { ctype = Pointer t; at = 0 }) → Points structs pointer_size types (Element t) p

  -- so do contents from an offset on
  abbrev pub AreTypedContents : Ty → ℕ → List Content → Type 0
  AreTypedContents outer offset cs = (k : ℕ) (t : Ty) (p : MachinePointer) → slice_get cs k ≡ Some (part p 0) → scalar_byte structs pointer_size outer (offset + k) ≡ Some (record { ctype = Pointer t; at = 0 }) → Points structs pointer_size types (Element t) p

  pub typed_at : (memory : Memory) → IsTypedMemory structs pointer_size types memory → (i : ℕ) (outer : Ty) → types i ≡ Some outer → AreTypedBytes outer (bytes_at memory i)
  typed_at memory typed i outer is offset t b p there content byte = typed i offset outer t b p is there content byte

  pub typed_refilled : (outer : Ty) (bytes : List Byte) (offset : ℕ) (cs : List Content) → AreTypedBytes outer bytes → AreTypedContents outer offset cs → AreTypedBytes outer (refilled bytes offset cs)
  typed_refilled outer bytes offset cs old new x t b p there content byte =
      let r = refilled_at offset bytes cs x b there in
      elim r.content [
        | inl same ↦ old x t r.was p r.there (sym same ∙ content) byte
        | inr here ↦ new here.0 t p (here.2 ∙ ap Some content) (sym (ap (scalar_byte structs pointer_size outer) here.1) ∙ byte)
      ]

  pub numbers_typed : (outer : Ty) (offset size n : ℕ) (labels : Labels) → AreTypedContents outer offset (number_bytes size n labels)
  numbers_typed outer offset size n labels k t p there byte = let r = numbers_at size n labels k (part p 0) there in absurd (no_part (number r.value labels) p 0 tt (sym r.is))

  -- a pointer has its first part at the offset alone
  pub pointer_typed : (outer : Ty) (offset size : ℕ) (q : MachinePointer) → ((t : Ty) → scalar_byte structs pointer_size outer offset ≡ Some (record { ctype = Pointer t; at = 0 }) → Points structs pointer_size types (Element t) q) → AreTypedContents outer offset (pointer_bytes size q)
  pointer_typed outer offset size null points k t p there byte = numbers_typed outer offset size 0 no_labels k t p there byte
  pointer_typed outer offset size (into i o lo hi) points k t p there byte =
      let r = parts_at (into i o lo hi) 0 size k (part p 0) there in
      let same : p ≡ into i o lo hi = ap part_of r.0 in
      let first : 0 ≡ 0 + k = ap part_number r.0 in
      let place : offset + k ≡ offset = omega (arith, first) in
      subst (Points structs pointer_size types (Element t)) (sym same) (points t (sym (ap (scalar_byte structs pointer_size outer) place) ∙ byte))

  pub text_typed : (outer : Ty) (offset room : ℕ) (text : List ℕ) → AreTypedContents outer offset (take room (characters text ++ number 0 no_labels ∷ []))
  text_typed outer offset room text k t p there byte = let r = get_take room (characters text ++ number 0 no_labels ∷ []) k (part p 0) there in text_plain text k (part p 0) p 0 r.1 refl

  -- the bytes of one instance give place to others
  pub set_keeps : (w : World) (i : ℕ) (bytes : List Byte) → IsTypedMemory structs pointer_size types w.memory → ((outer : Ty) → types i ≡ Some outer → AreTypedBytes outer bytes) → KeepsTypes structs pointer_size types w (with_memory w (set_bytes w.memory i bytes))
  set_keeps w i bytes typed new = record {
    memory = λ j x outer t b p is there content byte.
        changed_bytes (slice_get w.memory i) w.memory i bytes refl (λ k bs. (outer : Ty) → types k ≡ Some outer → AreTypedBytes outer bs) (typed_at w.memory typed) new j outer is x t b p there content byte;
    long = changed_long (slice_get w.memory i) w.memory i bytes;
    storages = changed_storages (slice_get w.memory i) w.memory i bytes refl;
  }

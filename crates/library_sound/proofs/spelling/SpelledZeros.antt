-- What a text that is spelled makes of the first zeros stands for the bytes that are written.
use Rattle.std.proofs.Common.{◌≡◌, ℕ, ◌+◌, ◌-◌, ◌^◌, ◌<◌, ◌≤◌, Bool, true, false, ◌&&◌, ◌||◌, ◌==◌, Option, Some, None, List, length, take, drop, arith, subst, sym, refl, ap, ◌∙◌, inl, inr, ◌⊎◌}
use Rattle.std.specs.Prelude.{ℤ}
use Rattle.std.proofs.lemmas.Bool.{and_parts, eqb-true, eqb-false}
use Rattle.std.proofs.lemmas.List.{length-take, length-drop}
use Rattle.cc_base.specs.Lattices.{LatticeOf, OrderLaws}
use Rattle.cc_base.specs.IntegerDomains.{IntegersOf, BoundLaws}
use Rattle.c_layout.specs.declared.shapes.ZeroPart.{ZeroPart}
use Rattle.cfg.specs.BaseShapes.{ends_by, part_size, size_or_none, is_room_or_apart}
use Rattle.cfg.specs.declared.programs.Flow.{Flow}
use Rattle.value_domain.specs.declared.values.row_cells.Cell.{Cell}
use Rattle.store_cells.specs.RowPositions.{zero_at}
use Rattle.store.specs.Spelling.{written_count, character, first_zero_of, spell_part_at}
use Rattle.memory_model.specs.Memory.Bytes.{number}
use Rattle.memory_model.specs.Memory.Labels.{no_labels}
use Rattle.memory_model.specs.Memory.Instances.{Memory, bytes_at, byte_at}
use Rattle.store_sound.specs.Concretization.SoundMemory.{IsMemoryOf}
use Rattle.store_sound.specs.Concretization.ValueMeaning.{Naming, InGammaZero}
use Rattle.store_sound.specs.Concretization.RowMeaning.{IsLiveOf, array_of, array_bytes}
use Rattle.store_sound.proofs.operations.Slices.{get_take, get_drop}
use Rattle.store_sound.proofs.chars.ByteArrays.{IsIn}
use Rattle.store_sound.specs.Regions.RegionWrites.{IsRegion}
use Rattle.store_sound.proofs.regions.RegionArrays.{array_short, array_apart, put_zero_stands}
use Rattle.store_sound.proofs.programs.ShapedBases.{ends_inside}
use Rattle.library_sound.proofs.spelling.Texts.{AreOf, first_zero_stands}
use Rattle.library_sound.proofs.spelling.SpelledCells.{IsText}

-- a part is the room, or has no byte of it
record IsRoom (offset room : ℕ) (part : ZeroPart) : Type 0 where
  start : part.offset ≡ offset
  size : part_size part ≡ room

or_cases : (a b : Bool) → (a || b) ≡ true → (a ≡ true) ⊎ (b ≡ true)
or_cases true b h = inl refl
or_cases false b h = inr h

room_or_apart : (offset room : ℕ) (part : ZeroPart) → is_room_or_apart offset room part ≡ true → IsRoom offset room part ⊎ ((part.offset + part_size part ≤ offset) ⊎ (offset + room ≤ part.offset))
room_or_apart offset room part h = elim (or_cases ((part.offset == offset) && (part_size part == room)) (ends_by part.offset (part_size part) offset || ends_by offset room part.offset) h) [
  | inl e ↦ (let a = and_parts (part.offset == offset) (part_size part == room) e in inl (record { start = eqb-true part.offset offset a.0; size = eqb-true (part_size part) room a.1 }))
  | inr e ↦ elim (or_cases (ends_by part.offset (part_size part) offset) (ends_by offset room part.offset) e) [
    | inl f ↦ inr (inl (ends_inside part.offset (part_size part) offset f))
    | inr f ↦ inr (inr (ends_inside offset room part.offset f))
  ]
]

some_size : (size : Option ℕ) (room : ℕ) → 0 < room → size_or_none size ≡ room → size ≡ Some room
some_size None room some e = absurd (omega (arith, some, e))
some_size (Some size) room some e = ap Some e

in_part : (part : ZeroPart) (x : ℕ) → 0 < part_size part → IsIn part.size part.offset x → (part.offset ≤ x) × (x < part.offset + part_size part)
in_part part x = by_size part.size
  where
    by_size : (size : Option ℕ) → 0 < size_or_none size → IsIn size part.offset x → (part.offset ≤ x) × (x < part.offset + size_or_none size)
    by_size None some h = absurd (omega (arith, some))
    by_size (Some size) some h = h

module _ {I : Type 0} {l : LatticeOf I} {n : IntegersOf I} {gamma : I → ℤ → Type 0} (o : OrderLaws l) (q : BoundLaws l n gamma) (flow : Flow) (naming : Naming) {old new : Memory} {i offset room : ℕ} (text : List ℕ) (s : IsRegion old new i offset (written_count room text)) (sane : IsMemoryOf flow.model flow.bases.items naming new) (k : IsText new i offset (written_count room text) text)
    (some : 0 < room) (inside : offset + room ≤ length (bytes_at new i)) (b : ℕ) (single : (j : ℕ) → IsLiveOf naming old b j → j ≡ i) (part : ZeroPart) (full : 0 < part_size part) (fits : is_room_or_apart offset room part ≡ true) where
  small_array : (j : ℕ) → length (array_bytes part (bytes_at new j)) ≤ 2 ^ 64 - 1
  small_array j = let a = array_short part (bytes_at new j) in let c = sane.small j in omega (arith, a, c)

  module _ (is : IsRoom offset room part) where
    -- the array is all of the room
    room_is : array_bytes part (bytes_at new i) ≡ take room (drop offset (bytes_at new i))
    room_is =
        let size : part.size ≡ Some room = some_size part.size room some is.size in
        let start = is.start in
        ap (λ z. array_of z (drop part.offset (bytes_at new i))) size ∙ ap (λ z. take room (drop z (bytes_at new i))) start

    room_long : length (take room (drop offset (bytes_at new i))) ≡ room
    room_long = let a = length-take room (drop offset (bytes_at new i)) in let c = length-drop offset (bytes_at new i) in omega (arith, a, c, inside)

    room_text : AreOf text (take room (drop offset (bytes_at new i)))
    unfolding byte_at
    room_text x byte e few =
        let r = get_take room (drop offset (bytes_at new i)) x byte e in
        let less = r.0 in
        let at : offset + x - offset ≡ x = omega arith in
        k.content (offset + x) byte (omega arith) (omega (arith, less, few)) (sym (get_drop offset (bytes_at new i) x (offset + x) refl) ∙ r.1) ∙ ap (λ z. number (character text z) no_labels) at

    room_stands : InGammaZero gamma naming new (first_zero_of n room text) (array_bytes part (bytes_at new i))
    room_stands = subst (InGammaZero gamma naming new (first_zero_of n room text)) (sym room_is) (first_zero_stands q room text (take room (drop offset (bytes_at new i))) room_long room_text)

  module _ (p : ℕ) (row : List (Cell I)) (there : p < length row) (j : ℕ) (alive : IsLiveOf naming old b j) (zero : InGammaZero gamma naming old (zero_at l n row p) (array_bytes part (bytes_at old j))) where
    apart : (part.offset + part_size part ≤ offset) ⊎ (offset + room ≤ part.offset) → InGammaZero gamma naming new (zero_at l n row p) (array_bytes part (bytes_at new j))
    apart h = subst (InGammaZero gamma naming new (zero_at l n row p))
        (sym (array_apart s part j (λ d x at from to.
        let w = in_part part x full at in
        let w0 = w.0 in
        let w1 = w.1 in
        elim h [ inl e ↦ omega (arith, e, from, w1) | inr e ↦ omega (arith, e, to, w0) ])))
        zero

    by_start : (same : Bool) → (part.offset == offset) ≡ same → InGammaZero gamma naming new (zero_at l n (spell_part_at offset (first_zero_of n room text) part p row) p) (array_bytes part (bytes_at new j))
    by_start true e = rw e (put_zero_stands o q naming new row p (first_zero_of n room text) (array_bytes part (bytes_at new j)) there (small_array j)
        (subst (λ z. InGammaZero gamma naming new (first_zero_of n room text) (array_bytes part (bytes_at new z))) (sym (single j alive))
        (let start = eqb-true part.offset offset e in
        elim (room_or_apart offset room part fits) [
          | inl is ↦ room_stands is
          | inr h ↦ elim h [ inl f ↦ absurd (omega (arith, f, start, full)) | inr f ↦ absurd (omega (arith, f, start, some)) ]
        ])))
    by_start false e = rw e (elim (room_or_apart offset room part fits) [
      | inl is ↦ (let start = is.start in absurd (eqb-false part.offset offset e start))
      | inr h ↦ apart h
    ])

    pub zero_spelled : InGammaZero gamma naming new (zero_at l n (spell_part_at offset (first_zero_of n room text) part p row) p) (array_bytes part (bytes_at new j))
    zero_spelled = by_start (part.offset == offset) refl

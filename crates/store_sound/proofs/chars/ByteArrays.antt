-- The arrays that a store of a character meets.
use Rattle.std.proofs.Common.{◌≡◌, ℕ, zero, suc, ◌+◌, ◌-◌, ◌^◌, ◌<◌, ◌≤◌, Bool, true, false, ◌&&◌, ◌==◌, Option, Some, None, List, length, take, drop, arith, subst, sym, refl, ap, ◌∙◌, inl, inr, ◌⊎◌, cond}
use Rattle.std.specs.Prelude.{slice_get, set, nat_le, min, max}
use Rattle.std.proofs.lemmas.Bool.{cases_Bool, cases_eq, cases_lt, and_parts, and_from, leb-true, le-leb, true≢false, ne_eqb}
use Rattle.std.proofs.lemmas.Option.{same_Some, slice_get_within}
use Rattle.std.proofs.lemmas.List.{length-set}
use Rattle.c_layout.specs.declared.shapes.ZeroPart.{ZeroPart}
use Rattle.store_cells.specs.declared.access_windows.Window.{Window}
use Rattle.store_cells.specs.declared.first_zero_writes.ZeroTarget.{ZeroTarget}
use Rattle.store_cells.specs.AccessWindows.{window_from, window_lies_within, window_between}
use Rattle.store_cells.specs.FirstZeroWrites.{last_of, has_no_bytes, zero_target}
use Rattle.memory_model.specs.Memory.Bytes.{Content, Byte}
use Rattle.memory_model.specs.Memory.Instances.{Memory, bytes_at, byte_at}
use Rattle.store_sound.specs.Concretization.RowMeaning.{array_of, array_bytes}
use Rattle.store_sound.proofs.operations.Slices.{get_drop, get_set_same, get_set_other}
use Rattle.store_sound.proofs.operations.StoreZeros.{same_slices, take_by}
use Rattle.store_sound.proofs.chars.ByteStores.{IsByteStore}

-- the offset is one of the array's
abbrev pub IsIn : Option ℕ → ℕ → ℕ → Type 0
IsIn None start offset = start ≤ offset
IsIn (Some size) start offset = (start ≤ offset) × (offset < start + size)

pub in_or_not : (size : Option ℕ) (start offset : ℕ) → IsIn size start offset ⊎ (IsIn size start offset → ⊥)
in_or_not None start offset = elim (cases_lt offset start) [ inl e ↦ inr (λ (h : start ≤ offset). absurd (omega arith)) | inr e ↦ inl e ]
in_or_not (Some size) start offset = elim (cases_lt offset start) [
  | inl e ↦ inr (λ (h : (start ≤ offset) × (offset < start + size)). let a = h.0 in absurd (omega arith))
  | inr e ↦ elim (cases_lt offset (start + size)) [ inl f ↦ inl (e, f) | inr f ↦ inr (λ (h : (start ≤ offset) × (offset < start + size)). let a = h.1 in absurd (omega arith)) ]
]

-- what stands in an array
array_at : (size : Option ℕ) (start : ℕ) (bytes : List Byte) (k : ℕ) → (IsIn size start (start + k) → slice_get (array_of size (drop start bytes)) k ≡ slice_get bytes (start + k)) × ((IsIn size start (start + k) → ⊥) → slice_get (array_of size (drop start bytes)) k ≡ None)
array_at None start bytes k = (λ h. get_drop start bytes k (start + k) refl, λ n. absurd (n (omega arith)))
array_at (Some size) start bytes k =
    let r = take_by size (drop start bytes) k in (
      λ (h : (start ≤ start + k) × (start + k < start + size)). let a = h.1 in r.0 (omega arith) ∙ get_drop start bytes k (start + k) refl,
      λ (n : (start ≤ start + k) × (start + k < start + size) → ⊥). r.1 (elim (cases_lt k size) [ inl e ↦ absurd (n (omega arith, omega arith)) | inr e ↦ e ]),
    )

starts_in : (size : Option ℕ) (start offset : ℕ) → IsIn size start offset → start ≤ offset
starts_in None start offset h = h
starts_in (Some size) start offset h = h.0

module _ {old new : Memory} {i offset : ℕ} {c : Content} (s : IsByteStore old new i offset c) (part : ZeroPart) where
  by_part : (xs ys : List Byte) → ((k : ℕ) → IsIn part.size part.offset (part.offset + k) → slice_get xs (part.offset + k) ≡ slice_get ys (part.offset + k)) → array_bytes part xs ≡ array_bytes part ys
  by_part xs ys h = same_slices _ _ (λ k. elim (in_or_not part.size part.offset (part.offset + k)) [
    | inl e ↦ (array_at part.size part.offset xs k).0 e ∙ (h k e ∙ sym ((array_at part.size part.offset ys k).0 e))
    | inr e ↦ (array_at part.size part.offset xs k).1 e ∙ sym ((array_at part.size part.offset ys k).1 e)
  ])

  -- an array that the store does not meet
  pub array_kept : (j : ℕ) → (j ≡ i → IsIn part.size part.offset offset → ⊥) → array_bytes part (bytes_at new j) ≡ array_bytes part (bytes_at old j)
  unfolding byte_at
  array_kept j n = by_part (bytes_at new j) (bytes_at old j) (λ k h. s.outside j (part.offset + k) (λ e f. n e (subst (IsIn part.size part.offset) f h)))

  module _ (inside : IsIn part.size part.offset offset) where
    abbrev place : ℕ
    place = offset - part.offset

    place_is : offset ≡ part.offset + place
    place_is = let a = starts_in part.size part.offset offset inside in omega arith

    pub place_there : slice_get (array_bytes part (bytes_at old i)) place ≡ Some s.was
    unfolding byte_at
    place_there = (array_at part.size part.offset (bytes_at old i) place).0 (subst (IsIn part.size part.offset) place_is inside) ∙ subst (λ o. slice_get (bytes_at old i) o ≡ Some s.was) place_is s.before

    pub place_inside : place < length (array_bytes part (bytes_at old i))
    place_inside = slice_get_within (array_bytes part (bytes_at old i)) place s.was place_there

    -- an array that the store meets
    pub array_set : array_bytes part (bytes_at new i) ≡ set (array_bytes part (bytes_at old i)) place (record (s.was) { content = c })
    unfolding byte_at
    array_set = same_slices _ _ (λ k. elim (cases_eq k place) [
      | inl e ↦ subst (λ z. slice_get (array_bytes part (bytes_at new i)) z ≡ slice_get (set (array_bytes part (bytes_at old i)) place (record (s.was) { content = c })) z) (sym e)
          ((array_at part.size part.offset (bytes_at new i) place).0 (subst (IsIn part.size part.offset) place_is inside)
          ∙ (subst (λ o. slice_get (bytes_at new i) o ≡ Some (record (s.was) { content = c })) place_is s.here
          ∙ sym (get_set_same (array_bytes part (bytes_at old i)) place (record (s.was) { content = c }) place_inside)))
      | inr n ↦ elim (in_or_not part.size part.offset (part.offset + k)) [
        | inl h ↦ (array_at part.size part.offset (bytes_at new i) k).0 h
            ∙ (s.outside i (part.offset + k) (λ e (f : part.offset + k ≡ offset). n (omega arith))
            ∙ (sym ((array_at part.size part.offset (bytes_at old i) k).0 h)
            ∙ sym (get_set_other (array_bytes part (bytes_at old i)) place k (record (s.was) { content = c }) n)))
        | inr h ↦ (array_at part.size part.offset (bytes_at new i) k).1 h
            ∙ (sym ((array_at part.size part.offset (bytes_at old i) k).1 h)
            ∙ sym (get_set_other (array_bytes part (bytes_at old i)) place k (record (s.was) { content = c }) n))
      ]
    ])

-- ---- the target of a window

-- where the window meets the array, counted from its first byte
pub record IsTarget (part : ZeroPart) (w : Window) (t : ZeroTarget) : Type 0 where
  pub lo : t.local.lo ≡ max w.lo part.offset - part.offset
  pub hi : t.local.hi ≡ min w.hi (last_of part.offset part.size) - part.offset
  pub meets : max w.lo part.offset ≤ min w.hi (last_of part.offset part.size)
  pub whole : t.whole ≡ true → (part.offset ≤ w.lo) × (w.hi ≤ last_of part.offset part.size)
  pub some : has_no_bytes part.size ≡ false

pub target_is : (part : ZeroPart) (w : Window) (t : ZeroTarget) → zero_target part w ≡ Some t → IsTarget part w t
target_is part w t h = elim (cases_Bool (has_no_bytes part.size)) [
  | inl e ↦ (let g : None ≡ Some t = rw e at h in cc)
  | inr e ↦ elim (cases_Bool (nat_le (max w.lo part.offset) (min w.hi (last_of part.offset part.size)))) [
    | inr f ↦ (let g : None ≡ Some t = rw (e, f) at h in cc)
    | inl f ↦ (let met : Window = window_between (max w.lo part.offset) (min w.hi (last_of part.offset part.size)) in
        let made : ZeroTarget = record { local = window_from met part.offset; whole = window_lies_within w part.offset (last_of part.offset part.size) } in
        let g : Some made ≡ Some t = rw (e, f) at h in
        let d : made ≡ t = same_Some made t g in
        record {
          lo = sym (ap (λ z. z.local.lo) d);
          hi = sym (ap (λ z. z.local.hi) d);
          meets = leb-true _ _ f;
          whole = λ k. let a = and_parts (nat_le part.offset w.lo) (nat_le w.hi (last_of part.offset part.size)) (ap (λ z. z.whole) d ∙ k) in (leb-true _ _ a.0, leb-true _ _ a.1);
          some = e;
        })
  ]
]

last_in : (size : Option ℕ) (start offset : ℕ) → IsIn size start offset → offset ≤ 2 ^ 64 - 1 → offset ≤ last_of start size
last_in None start offset h k = k
last_in (Some size) start offset h k = let a = h.1 in omega arith

last_small : (size : Option ℕ) (start : ℕ) → last_of start size ≤ 2 ^ 64 - 1
last_small None start = omega arith
last_small (Some size) start = omega arith

pub local_small : (part : ZeroPart) (w : Window) (t : ZeroTarget) → IsTarget part w t → t.local.hi ≤ 2 ^ 64 - 1
local_small part w t k = let a = k.hi in let b = last_small part.size part.offset in omega arith

some_in : (size : Option ℕ) (start offset : ℕ) → IsIn size start offset → has_no_bytes size ≡ false
some_in None start offset h = refl
some_in (Some size) start offset h = let a = h.0 in let b = h.1 in ne_eqb size 0 (λ (e : size ≡ 0). omega arith)

-- a window with an offset of the array has a target there
pub target_there : (part : ZeroPart) (w : Window) (offset : ℕ) → IsIn part.size part.offset offset → w.lo ≤ offset → offset ≤ w.hi → offset ≤ 2 ^ 64 - 1 → zero_target part w ≡ None → ⊥
target_there part w offset h from to small none =
    let a = starts_in part.size part.offset offset h in
    let b = last_in part.size part.offset offset h small in
    let e = some_in part.size part.offset offset h in
    let f : nat_le (max w.lo part.offset) (min w.hi (last_of part.offset part.size)) ≡ true = le-leb _ _ (omega arith) in
    let met : Window = window_between (max w.lo part.offset) (min w.hi (last_of part.offset part.size)) in
    let made : ZeroTarget = record { local = window_from met part.offset; whole = window_lies_within w part.offset (last_of part.offset part.size) } in
    let g : Some made ≡ None = rw (e, f) at none in
    cc

pub local_has : (part : ZeroPart) (w : Window) (t : ZeroTarget) (offset : ℕ) → IsTarget part w t → IsIn part.size part.offset offset → w.lo ≤ offset → offset ≤ w.hi → offset ≤ 2 ^ 64 - 1 → (t.local.lo ≤ offset - part.offset) × (offset - part.offset ≤ t.local.hi)
local_has part w t offset k h from to small =
    let a = starts_in part.size part.offset offset h in
    let b = last_in part.size part.offset offset h small in
    let c = k.lo in
    let d = k.hi in
    (omega arith, omega arith)

in_last : (size : Option ℕ) (start offset : ℕ) → has_no_bytes size ≡ false → start ≤ offset → offset ≤ last_of start size → IsIn size start offset
in_last None start offset e h k = h
in_last (Some zero) start offset e h k = cc
in_last (Some (suc size)) start offset e h k = (h, omega arith)

-- a window that lies in the array has offsets of it alone
pub whole_in : (part : ZeroPart) (w : Window) (t : ZeroTarget) (offset : ℕ) → IsTarget part w t → t.whole ≡ true → w.lo ≤ offset → offset ≤ w.hi → IsIn part.size part.offset offset
whole_in part w t offset k h from to = let r = k.whole h in let a = r.0 in let b = r.1 in in_last part.size part.offset offset k.some (omega arith) (omega arith)

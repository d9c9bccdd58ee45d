-- A struct that is copied between places of its type leaves memory typed.
use Rattle.std.proofs.Common.{◌≡◌, ◌⊎◌, inl, inr, ℕ, zero, suc, ◌+◌, ◌-◌, ◌<◌, ◌≤◌, Bool, true, false, Option, Some, List, [], ◌∷◌, ◌++◌, length, take, drop, min, refl, sym, ap, ◌∙◌, subst, arith}
use Rattle.std.specs.Prelude.{slice_get}
use Rattle.std.proofs.lemmas.Bool.{cases_Bool, cases_lt}
use Rattle.std.proofs.lemmas.List.{length-take, length-drop}
use Rattle.std.proofs.lemmas.Option.{same_Some, slice_get_within}
use Rattle.c_layout.specs.Layout.{size_of_type}
use Rattle.c_layout.specs.StructViews.{StructView}
use Rattle.c_layout.specs.Types.{Ty, Pointer, Struct}
use Rattle.c_layout.specs.declared.data_model.Model.{Model}
use Rattle.c_layout.specs.declared.leaf_lists.Leaf.{Leaf}
use Rattle.memory_model.specs.Memory.Bytes.{MachinePointer, null, Content, part, Byte}
use Rattle.memory_model.specs.Memory.Instances.{bytes_at}
use Rattle.memory_model.specs.Memory.Scalars.{Scalar, pointer}
use Rattle.memory_model.specs.Effects.Worlds.{World, Reply, goes, stops, world_of, behind, Left}
use Rattle.memory_model.specs.Effects.ScalarBytes.{replaced, region}
use Rattle.memory_model.specs.Effects.StructCopies.{copied, may_copy, copy_made, copy_at, copy_between, copy_struct}
use Rattle.memory_model.specs.Effects.Touches.{Spot, touched, is_allocated, storage_at}
use Rattle.store_sound.proofs.operations.Reading.{behind_goes, IsTouched, touched_goes, region_at}
use Rattle.store_sound.proofs.operations.Slices.{get_take, get_drop, get_left, get_right}
use Rattle.typed_programs.specs.Types.TypeBytes.{scalar_byte}
use Rattle.typed_programs.specs.Types.PointedTypes.{Target, Element, target_type, Points}
use Rattle.typed_programs.specs.Types.TypedStates.{IsTypedMemory}
use Rattle.typed_programs.specs.Types.EffectLaws.{KeepsTypes, CopiesKeepTypes}
use Rattle.typed_programs.proofs.memory.PointedPlaces.{IsAt, points_at}
use Rattle.typed_programs.proofs.memory.TypedBytes.{AreTypedBytes, set_keeps}

-- ---- the bytes of a copy

abbrev content_of : Byte → Content
content_of b = b.content

abbrev given_of : Reply Scalar → Scalar
given_of (goes v w) = v
given_of (stops why w) = pointer null

-- a byte of the copy was there, or has the content of the source
copied_at : (m : Model) (leaves : List Leaf) (allocated : Bool) (from : ℕ) (tos froms : List Byte) (k : ℕ) (b : Byte) → slice_get (copied m leaves allocated from tos froms) k ≡ Some b → (slice_get tos k ≡ Some b) ⊎ ((c : Byte) × (slice_get froms k ≡ Some c) × (b.content ≡ c.content))
copied_at m leaves allocated from [] [] k b there = inl there
copied_at m leaves allocated from [] (c ∷ froms) k b there = inl there
copied_at m leaves allocated from (a ∷ tos) [] k b there = inl there
copied_at m leaves allocated from (a ∷ tos) (c ∷ froms) zero b there = inr (c, refl, sym (ap content_of (same_Some _ b there)))
copied_at m leaves allocated from (a ∷ tos) (c ∷ froms) (suc k) b there = copied_at m leaves allocated (suc from) tos froms k b there

copied_long : (m : Model) (leaves : List Leaf) (allocated : Bool) (from : ℕ) (tos froms : List Byte) → length (copied m leaves allocated from tos froms) ≡ length tos
copied_long m leaves allocated from [] [] = refl
copied_long m leaves allocated from [] (c ∷ froms) = refl
copied_long m leaves allocated from (a ∷ tos) [] = refl
copied_long m leaves allocated from (a ∷ tos) (c ∷ froms) = ap suc (copied_long m leaves allocated (suc from) tos froms)

-- a byte behind a replacement by no more bytes than stand behind the offset
replaced_at : (bytes : List Byte) (offset : ℕ) (new : List Byte) → length new ≤ length bytes - offset → (x : ℕ) (b : Byte) → slice_get (replaced bytes offset new) x ≡ Some b → (slice_get bytes x ≡ Some b) ⊎ ((k : ℕ) × (x ≡ offset + k) × (slice_get new k ≡ Some b))
replaced_at bytes offset new short x b there =
    let rest : List Byte = new ++ drop (offset + length new) bytes in
    let front : ℕ = length (take offset bytes) in
    let long : front ≡ min offset (length bytes) = length-take offset bytes in
    elim (cases_lt x front) [
      | inl before ↦ inl ((get_take offset bytes x b (sym (get_left (take offset bytes) rest x before) ∙ there)).1)
      | inr past ↦ (let far : slice_get rest (x - front) ≡ Some b = sym (get_right (take offset bytes) rest x (x - front) (omega (arith, past))) ∙ there in
          elim (cases_lt (x - front) (length new)) [
            | inl inside ↦ inr (x - front, omega (arith, past, long, short, inside), sym (get_left new (drop (offset + length new) bytes) (x - front) inside) ∙ far)
            | inr outside ↦ (let y : ℕ = (offset + length new) + ((x - front) - length new) in
                let got : slice_get bytes y ≡ Some b = sym (get_drop (offset + length new) bytes ((x - front) - length new) y refl) ∙ (sym (get_right new (drop (offset + length new) bytes) (x - front) ((x - front) - length new) (omega (arith, outside))) ∙ far) in
                let within = slice_get_within bytes y b got in
                let same : y ≡ x = omega (arith, past, long, outside, within) in
                inl (sym (ap (slice_get bytes) same) ∙ got))
          ])
    ]

region_short : (bytes : List Byte) (offset size : ℕ) → length (region bytes offset size) ≤ length bytes - offset
region_short bytes offset size = let a = length-take size (drop offset bytes) in let b = length-drop offset bytes in omega (arith, a, b)

-- ---- a copy that goes on

record IsCopied (m : Model) (leaves : List Leaf) (size : ℕ) (p q : MachinePointer) (v : Scalar) (w after : World) : Type 0 where
  to : Spot
  from : Spot
  target : IsTouched w p size true to w
  source : IsTouched w q size false from w
  made : after ≡ copy_made m leaves size w to from
  value : v ≡ pointer p

module _ (m : Model) (leaves : List Leaf) (size : ℕ) (p q : MachinePointer) where
  at_spots : (from to : Spot) (w after : World) (r : MachinePointer) → copy_at m leaves size p from to w ≡ goes r after → (after ≡ copy_made m leaves size w to from) × (r ≡ p)
  at_spots from to w after r goes_on = elim (cases_Bool (may_copy m leaves size w to from)) [
    | inl e ↦ (let g : goes p (copy_made m leaves size w to from) ≡ goes r after = rw e at goes_on in (cc, cc))
    | inr e ↦ (let g : ◌≡◌ {A = Reply MachinePointer} (stops Left w) (goes r after) = rw e at goes_on in absurd (cc))
  ]

  copy_goes : (v : Scalar) (w after : World) → copy_struct m leaves size (pointer p) (pointer q) w ≡ goes v after → IsCopied m leaves size p q v w after
  copy_goes v w after goes_on =
      let a = behind_goes (copy_between m leaves size p q w) (λ r w. goes (pointer r) w) v after goes_on in
      let same : a.1 ≡ after = ap (world_of {A = Scalar}) a.3 in
      let b = behind_goes (touched w q size false) (λ from w. behind (touched w p size true) (copy_at m leaves size p from)) a.0 a.1 a.2 in
      let s = touched_goes w q size false b.0 b.1 b.2 in
      let c = behind_goes (touched w p size true) (copy_at m leaves size p b.0) a.0 a.1 (subst (λ z. behind (touched z p size true) (copy_at m leaves size p b.0) ≡ goes a.0 a.1) s.same b.3) in
      let t = touched_goes w p size true c.0 c.1 c.2 in
      let d = at_spots b.0 c.0 w a.1 a.0 (subst (λ z. copy_at m leaves size p b.0 c.0 z ≡ goes a.0 a.1) t.same c.3) in
      record {
        to = c.0;
        from = b.0;
        target = subst (IsTouched w p size true c.0) t.same t;
        source = subst (IsTouched w q size false b.0) s.same s;
        made = sym same ∙ d.0;
        value = sym (ap given_of a.3) ∙ ap pointer d.1;
      }

module _ (m : Model) (structs : List StructView) (types : ℕ → Option Ty) (to from : Target) (index : ℕ) (leaves : List Leaf) (p q : MachinePointer) (v : Scalar) (w after : World) (typed : IsTypedMemory structs m.pointer types w.memory)
    (points : Points structs m.pointer types to p) (is_to : target_type to ≡ Struct index) (other : Points structs m.pointer types from q) (is_from : target_type from ≡ Struct index) (c : IsCopied m leaves (size_of_type structs m.pointer (Struct index)) p q v w after) where
  abbrev size : ℕ
  size = size_of_type structs m.pointer (Struct index)

  abbrev target_bytes : List Byte
  target_bytes = bytes_at w.memory c.to.instance

  abbrev source_bytes : List Byte
  source_bytes = bytes_at w.memory c.from.instance

  abbrev new : List Byte
  new = copied m leaves (is_allocated (storage_at w.memory c.to.instance)) 0 (region target_bytes c.to.offset size) (region source_bytes c.from.offset size)

  to_at : 0 < size → IsAt structs m.pointer types (Struct index) c.to.instance c.to.offset
  to_at some = subst (λ t. IsAt structs m.pointer types t c.to.instance c.to.offset) is_to (points_at structs m.pointer types to c.to.instance c.to.offset c.target.lo c.target.hi size (subst (Points structs m.pointer types to) c.target.pointer points) some c.target.below)

  from_at : 0 < size → IsAt structs m.pointer types (Struct index) c.from.instance c.from.offset
  from_at some = subst (λ t. IsAt structs m.pointer types t c.from.instance c.from.offset) is_from (points_at structs m.pointer types from c.from.instance c.from.offset c.source.lo c.source.hi size (subst (Points structs m.pointer types from) c.source.pointer other) some c.source.below)

  -- what comes from the source is of the struct there, and so it is where it goes
  from_source : (outer : Ty) → types c.to.instance ≡ Some outer → (k : ℕ) (t : Ty) (b : Byte) (r : MachinePointer) → slice_get (region source_bytes c.from.offset size) k ≡ Some b → b.content ≡ part r 0
      → scalar_byte structs m.pointer outer (c.to.offset + k) ≡ Some (record { ctype = Pointer t; at = 0 }) → Points structs m.pointer types (Element t) r
  from_source outer is k t b r there content byte =
      let g = region_at source_bytes c.from.offset size k (c.from.offset + k) b there refl in
      let inside : k < size = g.0 in
      let some : 0 < size = omega (arith, inside) in
      let a = to_at some in
      let s = from_at some in
      let same : a.outer ≡ outer = same_Some a.outer outer (sym a.is ∙ is) in
      let here : scalar_byte structs m.pointer outer (c.to.offset + k) ≡ scalar_byte structs m.pointer (Struct index) k = subst (λ z. scalar_byte structs m.pointer z (c.to.offset + k) ≡ scalar_byte structs m.pointer (Struct index) k) same (a.stands.scalars k inside) in
      typed c.from.instance (c.from.offset + k) s.outer t b r s.is g.1 content (s.stands.scalars k inside ∙ (sym here ∙ byte))

  bytes_typed : (outer : Ty) → types c.to.instance ≡ Some outer → AreTypedBytes structs m.pointer types outer (replaced target_bytes c.to.offset new)
  bytes_typed outer is x t b r there content byte =
      let long = copied_long m leaves (is_allocated (storage_at w.memory c.to.instance)) 0 (region target_bytes c.to.offset size) (region source_bytes c.from.offset size) in
      let short = region_short target_bytes c.to.offset size in
      elim (replaced_at target_bytes c.to.offset new (omega (arith, long, short)) x b there) [
        | inl old ↦ typed c.to.instance x outer t b r is old content byte
        | inr here ↦ (let place = here.1 in
            let byte_there = sym (ap (scalar_byte structs m.pointer outer) place) ∙ byte in
            elim (copied_at m leaves (is_allocated (storage_at w.memory c.to.instance)) 0 (region target_bytes c.to.offset size) (region source_bytes c.from.offset size) here.0 b here.2) [
              | inl old ↦ typed c.to.instance (c.to.offset + here.0) outer t b r is (region_at target_bytes c.to.offset size here.0 (c.to.offset + here.0) b old refl).1 content byte_there
              | inr came ↦ from_source outer is here.0 t came.0 r came.1 (sym came.2 ∙ content) byte_there
            ])
      ]

  copy_keeps : KeepsTypes structs m.pointer types w after
  copy_keeps = subst (KeepsTypes structs m.pointer types w) (sym c.made) (set_keeps structs m.pointer types w c.to.instance (replaced target_bytes c.to.offset new) typed bytes_typed)

pub copies : CopiesKeepTypes
copies m structs types to from index leaves p q v w after typed points is_to other is_from goes_on =
    let c = copy_goes m leaves (size_of_type structs m.pointer (Struct index)) p q v w after goes_on in
    (copy_keeps m structs types to from index leaves p q v w after typed points is_to other is_from c, c.value)

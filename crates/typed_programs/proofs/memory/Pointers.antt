-- A pointer that is narrowed to a part, or moved among elements, points to the type that it is to.
use Rattle.std.proofs.Common.{◌≡◌, ◌⊎◌, inl, inr, ℕ, suc, ◌+◌, ◌-◌, ◌*◌, ◌<◌, ◌≤◌, ℤ, pos, negsuc, neg_ℤ, ◌+ℤ◌, ◌≤ℤ◌, Bool, true, false, List, Option, Some, refl, sym, ap, ◌∙◌, subst, arith}
use Rattle.std.specs.Prelude.{int_le, unsigned_abs, ◌&&◌, not}
use Rattle.std.proofs.lemmas.Bool.{cases_Bool, cases_lt, and_parts}
use Rattle.std.proofs.lemmas.Int.{ints}
use Rattle.cc_base.specs.declared.diagnostics.Rule.TheVariants as rule
use Rattle.c_layout.specs.Layout.{size_of_type}
use Rattle.c_layout.specs.StructViews.{StructView}
use Rattle.c_layout.specs.Types.{Ty}
use Rattle.memory_model.specs.Memory.Bytes.{MachinePointer, null, into}
use Rattle.memory_model.specs.Memory.Labels.{is_unlabelled}
use Rattle.memory_model.specs.Memory.Scalars.{Scalar, integer, pointer}
use Rattle.memory_model.specs.Effects.Worlds.{World, Reply, goes, stops, world_of, noted, stopped_by}
use Rattle.memory_model.specs.Effects.PointerEffects.{is_ended, narrowed_by, narrow_pointer, narrow, distance_of, moved_into, moved, shift}
use Rattle.memory_model.specs.Effects.Touches.{touched}
use Rattle.store_sound.proofs.operations.Reading.{behind_goes, touched_goes}
use Rattle.typed_programs.specs.Types.StandingTypes.{Stands}
use Rattle.typed_programs.specs.Types.PointedTypes.{Target, Element, target_type, Pointing, IsElement, Points, Has}
use Rattle.typed_programs.specs.Types.EffectLaws.{GivesKnown, NarrowsAreTyped, ShiftsAreTyped}
use Rattle.typed_programs.proofs.layouts.StandingTypes.{stands_through}
use Rattle.typed_programs.proofs.memory.PointedPlaces.{points_at}

abbrev given_of : Reply Scalar → Scalar
given_of (goes v w) = v
given_of (stops why w) = pointer null

-- ---- parts

module _ (structs : List StructView) (pointer_size : ℕ) (types : ℕ → Option Ty) where
  -- one element is the bytes within the bounds
  one_element : (outer inner : Ty) (x size : ℕ) → size ≡ size_of_type structs pointer_size inner → Stands structs pointer_size outer inner x → IsElement structs pointer_size outer inner x x (x + size)
  one_element outer inner x size is stands = record {
    count = 1;
    index = 0;
    end = omega (arith, is);
    at = omega arith;
    within = omega arith;
    elements = λ k below. let z : k ≡ 0 = omega (arith, below) in
        let e : x + k * size_of_type structs pointer_size inner ≡ x + 0 * size_of_type structs pointer_size inner = ap (λ n. x + n * size_of_type structs pointer_size inner) z in
        let f : x ≡ x + k * size_of_type structs pointer_size inner = omega (arith, e) in
        subst (Stands structs pointer_size outer inner) f stands;
  }

  narrowed : (target : Target) (inner : Ty) (p : MachinePointer) (offset size : ℕ) (v : Scalar) (w after : World) → Points structs pointer_size types target p → Stands structs pointer_size (target_type target) inner offset → size ≡ size_of_type structs pointer_size inner → 0 < size
      → narrow (pointer p) offset size w ≡ goes v after → GivesKnown structs pointer_size types (Some (Pointing (Element inner))) v w after
  narrowed target inner null offset size v w after points stands is some goes_on = absurd (cc)
  narrowed target inner (into i o lo hi) offset size v w after points stands is some goes_on =
      let a = behind_goes (narrow_pointer offset size (into i o lo hi) w) (λ r w. goes (pointer r) w) v after goes_on in
      let b = behind_goes (touched w (into i (o + offset) lo hi) size false) (narrowed_by size) a.0 a.1 a.2 in
      let t = touched_goes w (into i (o + offset) lo hi) size false b.0 b.1 b.2 in
      let j : ℕ = b.0.instance in
      let x : ℕ = b.0.offset in
      let same_instance : i ≡ j = ap instance_of t.pointer in
      let same_offset : o + offset ≡ x = ap offset_in t.pointer in
      let same_end : hi ≡ t.hi = ap end_of t.pointer in
      let below = t.below in
      let at = points_at structs pointer_size types target i o lo hi (offset + size) points (omega (arith, some)) (omega (arith, same_offset, same_end, below)) in
      let there : Stands structs pointer_size at.outer inner x = subst (Stands structs pointer_size at.outer inner) same_offset (stands_through structs pointer_size at.outer (target_type target) inner o offset at.stands stands) in
      let given : pointer (into j x x (x + size)) ≡ v = ap (λ r. pointer (pointer_of r)) b.3 ∙ ap given_of a.3 in
      record {
        has = subst (Has structs pointer_size types (Pointing (Element inner))) given (at.outer, sym (ap types same_instance) ∙ at.is, one_element at.outer inner x size is there);
        memory = ap (λ z. (world_of z).memory) (sym a.3) ∙ (ap (λ z. (world_of z).memory) (sym b.3) ∙ ap (λ z. z.memory) t.same);
      }
    where
      instance_of : MachinePointer → ℕ
      instance_of null = 0
      instance_of (into i offset lo hi) = i

      offset_in : MachinePointer → ℕ
      offset_in null = 0
      offset_in (into i offset lo hi) = offset

      end_of : MachinePointer → ℕ
      end_of null = 0
      end_of (into i offset lo hi) = hi

      pointer_of : Reply MachinePointer → MachinePointer
      pointer_of (goes p w) = p
      pointer_of (stops why w) = null

pub narrows : NarrowsAreTyped
narrows structs pointer_size types target inner p offset size v w after points stands is some goes_on = narrowed structs pointer_size types target inner p offset size v w after points stands is some goes_on

-- ---- elements

-- a distance goes so many elements forwards or backwards
distance : (back : Bool) (n : ℤ) (size : ℕ) → (a : ℕ) × ((distance_of back n size ≡ pos (a * size)) ⊎ (distance_of back n size ≡ neg_ℤ (pos (a * size))))
distance false (pos a) size = (a, inl refl)
distance false (negsuc a) size = (suc a, inr refl)
distance true (pos a) size = (a, inr refl)
distance true (negsuc a) size = (suc a, inl (omega (arith, ints)))

at_most : (a b : ℤ) → int_le a b ≡ true → a ≤ℤ b
at_most a b h = grind (arith, ints)

fewer : (n count size : ℕ) → 0 < size → n * size ≤ count * size → n ≤ count
fewer n count size some below = elim (cases_lt count n) [
  | inr less ↦ less
  | inl more ↦ (let f : n ≡ suc (count + (n - suc count)) = omega (arith, more) in
      let g : n * size ≡ suc (count + (n - suc count)) * size = ap (λ z. z * size) f in
      absurd (omega (arith, g, below, some)))
]

-- an offset within the bounds that is so many elements away is one of an element
record IsIndex (lo size count x : ℕ) : Type 0 where
  index : ℕ
  at : x ≡ lo + index * size
  within : index ≤ count

forwards : (o x lo size j a count : ℕ) → o ≡ lo + j * size → x ≡ o + a * size → x ≤ lo + count * size → 0 < size → IsIndex lo size count x
forwards o x lo size j a count at is below some =
    let far : x ≡ lo + (j + a) * size = omega (arith, at, is) in
    record { index = j + a; at = far; within = fewer (j + a) count size some (omega (arith, far, below)) }

backwards : (o x lo size j a count : ℕ) → o ≡ lo + j * size → x + a * size ≡ o → lo ≤ x → j ≤ count → 0 < size → IsIndex lo size count x
backwards o x lo size j a count at is above within some =
    let less : a ≤ j = fewer a j size some (omega (arith, at, is, above)) in
    let e : j ≡ a + (j - a) = omega (arith, less) in
    let f : j * size ≡ (a + (j - a)) * size = ap (λ z. z * size) e in
    record { index = j - a; at = omega (arith, at, is, f); within = omega (arith, within) }

moved_index : (o lo hi size j count : ℕ) (by : ℤ) → o ≡ lo + j * size → hi ≡ lo + count * size → j ≤ count → 0 < size → (a : ℕ) × ((by ≡ pos (a * size)) ⊎ (by ≡ neg_ℤ (pos (a * size))))
    → int_le (pos lo) (pos o +ℤ by) ≡ true → int_le (pos o +ℤ by) (pos hi) ≡ true → IsIndex lo size count (unsigned_abs (pos o +ℤ by))
moved_index o lo hi size j count by at end within some away low high = elim away.1 [
  | inl e ↦ (let far : (pos o +ℤ by) ≡ pos (o + away.0 * size) = ap (λ z. pos o +ℤ z) e in
      let is : unsigned_abs (pos o +ℤ by) ≡ o + away.0 * size = ap unsigned_abs far in
      let top : (pos o +ℤ by) ≤ℤ pos hi = at_most (pos o +ℤ by) (pos hi) high in
      let below : o + away.0 * size ≤ hi = omega (arith, ints, far, top) in
      forwards o (unsigned_abs (pos o +ℤ by)) lo size j away.0 count at is (omega (arith, is, below, end)) some)
  | inr e ↦ (let far : (pos o +ℤ by) ≡ (pos o +ℤ neg_ℤ (pos (away.0 * size))) = ap (λ z. pos o +ℤ z) e in
      let base : pos lo ≤ℤ (pos o +ℤ by) = at_most (pos lo) (pos o +ℤ by) low in
      let less : lo + away.0 * size ≤ o = omega (arith, ints, far, base) in
      let near : (pos o +ℤ by) ≡ pos (o - away.0 * size) = omega (arith, ints, far, less) in
      let is : unsigned_abs (pos o +ℤ by) ≡ o - away.0 * size = ap unsigned_abs near in
      backwards o (unsigned_abs (pos o +ℤ by)) lo size j away.0 count at (omega (arith, is, less)) (omega (arith, is, less)) within some)
]

-- ---- moves

-- a move that goes on stays within the bounds
record IsMoved (i offset lo hi : ℕ) (by : ℤ) (r : MachinePointer) (w after : World) : Type 0 where
  low : int_le (pos lo) (pos offset +ℤ by) ≡ true
  high : int_le (pos offset +ℤ by) (pos hi) ≡ true
  is : r ≡ into i (unsigned_abs (pos offset +ℤ by)) lo hi
  memory : after.memory ≡ w.memory

within_goes : (w after : World) (i offset lo hi : ℕ) (by : ℤ) (r : MachinePointer) → moved_into w i (pos offset +ℤ by) lo hi ≡ goes r after → IsMoved i offset lo hi by r w after
within_goes w after i offset lo hi by r goes_on = elim (cases_Bool (int_le (pos lo) (pos offset +ℤ by) && int_le (pos offset +ℤ by) (pos hi))) [
  | inl e ↦ (let g : goes (into i (unsigned_abs (pos offset +ℤ by)) lo hi) w ≡ goes r after = rw e at goes_on in
      let p = and_parts (int_le (pos lo) (pos offset +ℤ by)) (int_le (pos offset +ℤ by) (pos hi)) e in
      record { low = p.0; high = p.1; is = ap pointer_in (sym g); memory = ap (λ z. (world_of z).memory) (sym g) })
  | inr e ↦ (let g : stopped_by {A = MachinePointer} w rule.Invptr ≡ goes r after = rw e at goes_on in absurd (cc))
]
  where
    pointer_in : Reply MachinePointer → MachinePointer
    pointer_in (goes p w) = p
    pointer_in (stops why w) = null

moved_goes : (w after : World) (i offset lo hi : ℕ) (by : ℤ) (r : MachinePointer) → moved w (into i offset lo hi) by ≡ goes r after → IsMoved i offset lo hi by r w after
moved_goes w after i offset lo hi by r goes_on = elim (cases_Bool (is_ended w.memory (into i offset lo hi))) [
  | inl e ↦ (let g : stopped_by {A = MachinePointer} w rule.Nullref ≡ goes r after = rw e at goes_on in absurd (cc))
  | inr e ↦ within_goes w after i offset lo hi by r (rw e at goes_on)
]

module _ (structs : List StructView) (pointer_size : ℕ) (types : ℕ → Option Ty) (t : Ty) where
  shifted : (p : MachinePointer) (by : Scalar) (size : ℕ) (back : Bool) (v : Scalar) (w after : World) → Points structs pointer_size types (Element t) p → size ≡ size_of_type structs pointer_size t → 0 < size
      → shift (pointer p) by size back w ≡ goes v after → GivesKnown structs pointer_size types (Some (Pointing (Element t))) v w after
  shifted p (pointer q) size back v w after points is some goes_on = absurd (cc)
  shifted null (integer n labels) size back v w after points is some goes_on = absurd (cc)
  shifted (into i o lo hi) (integer n labels) size back v w after points is some goes_on =
      let now : World = noted w (not (is_unlabelled labels)) rule.Taintsink in
      let by : ℤ = distance_of back n size in
      let a = behind_goes (moved now (into i o lo hi) by) (λ r w. goes (pointer r) w) v after goes_on in
      let g = moved_goes now a.1 i o lo hi by a.0 a.2 in
      let e = points.2 in
      let x : ℕ = unsigned_abs (pos o +ℤ by) in
      let k : IsIndex lo size e.count x = moved_index o lo hi size e.index e.count by (subst (λ z. o ≡ lo + e.index * z) (sym is) e.at) (subst (λ z. hi ≡ lo + e.count * z) (sym is) e.end) e.within some (distance back n size) g.low g.high in
      let given : pointer (into i x lo hi) ≡ v = ap pointer (sym g.is) ∙ ap given_of a.3 in
      record {
        has = subst (Has structs pointer_size types (Pointing (Element t))) given (points.0, points.1, record { count = e.count; index = k.index; end = e.end; at = subst (λ z. x ≡ lo + k.index * z) is k.at; within = k.within; elements = e.elements });
        memory = ap (λ z. (world_of z).memory) (sym a.3) ∙ g.memory;
      }

pub shifts : ShiftsAreTyped
shifts structs pointer_size types t p by size back v w after points is some goes_on = shifted structs pointer_size types t p by size back v w after points is some goes_on

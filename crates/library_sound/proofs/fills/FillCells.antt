-- What `memset` makes of each cell stands for the bytes that it sets.
use Rattle.std.proofs.Common.{◌≡◌, ℕ, ◌+◌, ◌*◌, ◌^◌, ◌<◌, ◌≤◌, Bool, true, false, cond, ◌&&◌, ◌==◌, Option, Some, None, List, length, arith, subst, sym, refl, ap, ◌∙◌, inl, inr, ◌⊎◌}
use Rattle.std.specs.Prelude.{slice_get, ℤ, pos, ◌≤ℤ◌, nat_lt, nat_le}
use Rattle.std.proofs.lemmas.Int.{ints}
use Rattle.std.proofs.lemmas.Bool.{and_parts, leb-true, eqb-true, lt-ltb, true≢false}
use Rattle.std.proofs.lemmas.Nat.{pow_pos}
use Rattle.std.proofs.lemmas.Option.{slice_get_within}
use Rattle.cc_base.specs.Lattices.{LatticeOf, OrderLaws}
use Rattle.cc_base.specs.IntegerDomains.{IntegersOf, BoundLaws}
use Rattle.c_layout.specs.declared.leaf_lists.Class.{Class}
use Rattle.c_layout.specs.declared.leaf_lists.Class.TheVariants.{Char}
use Rattle.c_layout.specs.declared.leaf_lists.Leaf.{Leaf}
use Rattle.c_layout.specs.declared.shapes.BaseInfo.{BaseInfo}
use Rattle.cfg.specs.declared.programs.Flow.{Flow}
use Rattle.value_domain.specs.Values.LabelSets.{labels_leq}
use Rattle.value_domain.specs.Values.ValueTables.{number_value}
use Rattle.value_domain.specs.declared.values.values.Value as values
use Rattle.value_domain.specs.declared.values.row_cells.Cell.{Cell}
use Rattle.store_cells.specs.declared.access_windows.Window.{Window}
use Rattle.store_cells.specs.ByteWrites.{byte_written}
use Rattle.store_cells.specs.ClassNumbers.{is_pointer}
use Rattle.store.specs.LeafSelection.{is_overlapped, has_stray}
use Rattle.store_cells.specs.RowPositions.{leaf_position, class_position, state_position, value_at, state_at, join_value, write_value}
use Rattle.transfer_library_writes.specs.FillWrites.{last_byte, is_covered_by, is_covered, holds_whole, is_from_start, covered_value, fill_leaf, fill_leaf_of, clears_instance, class_value, fill_stray}
use Rattle.transfer_library_writes.specs.declared.fill_writes.FillWrite.{FillWrite}
use Rattle.memory_model.specs.Memory.Labels.{Labels}
use Rattle.memory_model.specs.Memory.ScalarSizes.{class_bytes}
use Rattle.memory_model.specs.Memory.Bytes.{Content, number, Byte}
use Rattle.memory_model.specs.Memory.Instances.{Memory, bytes_at, byte_at, life_at}
use Rattle.memory_model.specs.Memory.Numbers.{Labelled, number_of, unsigned_of}
use Rattle.store_sound.specs.Concretization.Matching.{Matched, number_in, Holds}
use Rattle.store_sound.specs.Concretization.Places.{IsPlaceOf, OwnedByLeaf, OwnedByClass, IsClassPlace}
use Rattle.store_sound.specs.Concretization.SeenLabels.{as_set}
use Rattle.store_sound.specs.Concretization.SoundMemory.{IsMemoryOf}
use Rattle.store_sound.specs.Concretization.ValueMeaning.{Naming, InGammaContent, InGammaState}
use Rattle.store_sound.specs.Concretization.RowMeaning.{IsLiveOf, InGammaLeaf, InGammaClass}
use Rattle.store_sound.specs.Operations.Shapes.{IsShaped}
use Rattle.store_sound.proofs.operations.Classes.{class_above}
use Rattle.store_sound.proofs.operations.Near.{IsNearValue, value_at_near, near_number_from, near_number_none}
use Rattle.store_sound.proofs.operations.StoreValues.{written, join_is}
use Rattle.store_sound.proofs.chars.ByteValues.{written_near}
use Rattle.store_sound.specs.Regions.RegionWrites.{IsRegion}
use Rattle.store_sound.proofs.regions.Regions.{cell_joined, cell_covered, bytes_number, bytes_content, cell_numbers}
use Rattle.store_sound.proofs.regions.ByteRegions.{leaf_missed, char_missed, write_is}
use Rattle.store_sound.proofs.operations.Reading.{nil_unsigned}

-- what the analysis knows of a fill, of bytes that were set
pub record IsFill (write : FillWrite) (new : Memory) (i offset size : ℕ) : Type 0 where
  pub window : (o : ℕ) → offset ≤ o → o < offset + size → (write.window.lo ≤ o) × (o ≤ write.window.hi)
  pub start : (write.start.lo ≤ offset) × (offset ≤ write.start.hi)
  pub sure : (w : Window) → write.sure ≡ Some w → (offset ≤ w.lo) × (w.hi < offset + size)
  pub one_byte : write.one_byte ≡ true → size ≤ 1
  pub least : write.least ≤ℤ pos size
  pub numbers : (a : ℕ) (x : Byte) → offset ≤ a → a < offset + size → byte_at new i a ≡ Some x → (k : ℕ) × (la : Labels) × (x.content ≡ number k la) × (labels_leq (as_set la) write.labels ≡ true)
  pub zeros : write.zero ≡ true → (a : ℕ) (x : Byte) → offset ≤ a → a < offset + size → byte_at new i a ≡ Some x → (la : Labels) × (x.content ≡ number 0 la)

-- ---- numbers that are 0

nil_number : (signed : Bool) (ns : List Labelled) → unsigned_of ns ≡ 0 → number_of signed ns ≡ pos 0
nil_number true ns e = let h : nat_lt 0 (2 ^ (8 * length ns)) ≡ true = lt-ltb 0 (2 ^ (8 * length ns)) (pow_pos (8 * length ns)) in rw (e, h) refl
nil_number false ns e = ap pos e

number_or : Content → ℕ
number_or (number k la) = k
number_or _ = 0

number_is_nil : (y : Labelled) (la : Labels) → number_in y ≡ number 0 la → y.number ≡ 0
unfolding number_or
number_is_nil y la e = ap number_or e

-- ---- the value of a cell that is surely covered

module _ {I : Type 0} {l : LatticeOf I} {n : IntegersOf I} {gamma : I → ℤ → Type 0} (o : OrderLaws l) (q : BoundLaws l n gamma) (flow : Flow) (naming : Naming) {old new : Memory} {i offset size : ℕ} (s : IsRegion old new i offset size) (sane : IsMemoryOf flow.model flow.bases.items naming new) (write : FillWrite) (k : IsFill write new i offset size) where
  module _ (d : Class) (t : Bool) where
    abbrev covered : values.Value I
    covered = covered_value l n flow.model d t write

    abbrev joined : values.Value I
    joined = byte_written l n flow.model d t write.labels

    -- a zero, or any number
    covered_cases : (covered ≡ joined) ⊎ ((is_pointer d ≡ false) × (write.zero ≡ true) × (covered ≡ number_value l (n.one (pos 0)) write.labels))
    covered_cases = by_flags (is_pointer d) write.zero refl refl
      where
        by_flags : (p z : Bool) → is_pointer d ≡ p → write.zero ≡ z → (covered ≡ joined) ⊎ ((is_pointer d ≡ false) × (write.zero ≡ true) × (covered ≡ number_value l (n.one (pos 0)) write.labels))
        by_flags true z e f = inl (rw e refl)
        by_flags false false e f = inl (rw (e, f) refl)
        by_flags false true e f = inr (e, f, rw (e, f) refl)

    zero_near : IsNearValue l n (number_value l (n.one (pos 0)) write.labels)
    zero_near =
        let none = near_number_none o q l.least q.least_bounds in
        record { num = near_number_from o q (n.one (pos 0)) (pos 0) (pos 0) (q.one_bounds (pos 0)) (omega (arith, ints)) (omega (arith, ints)); lo = none; rel = none; len = none }

    covered_near : IsNearValue l n covered
    covered_near = elim covered_cases [
      | inl e ↦ subst (IsNearValue l n) (sym e) (written_near o q flow.model d t write.labels)
      | inr e ↦ subst (IsNearValue l n) (sym e.2) zero_near
    ]

    -- all bytes of a place are set
    covered_number : (a : ℕ) (ns : List Labelled) → offset ≤ a → a + class_bytes flow.model d ≤ offset + size → is_pointer d ≡ false → Holds flow.model new i a d ns → gamma covered.num (number_of t ns)
    covered_number a ns from to p h = elim covered_cases [
      | inl e ↦ subst (λ v. gamma v.num (number_of t ns)) (sym e) (bytes_number o q flow naming s sane write.labels k.numbers d t a ns p h)
      | inr e ↦ (let nil : number_of t ns ≡ pos 0 = nil_number t ns (nil_unsigned ns (λ j y f.
          let small = slice_get_within ns j y f in
          let long = h.size in
          let m = h.each j y small f in
          let one : Byte = record { content = number_in y; tag = m.tag } in
          let r = k.zeros e.1 (a + j) one (omega (arith, from)) (omega (arith, to, small, long)) m.here in
          number_is_nil y r.0 r.1)) in
          subst (λ v. gamma v.num (number_of t ns)) (sym e.2) (subst (gamma (n.one (pos 0))) (sym nil) (q.one_stands (pos 0))))
    ]

    covered_content : (a j : ℕ) (content : Content) → offset ≤ a → a < offset + size → Matched new i a d j content → InGammaContent gamma naming new covered d content
    covered_content a j content from to m = elim covered_cases [
      | inl e ↦ subst (λ v. InGammaContent gamma naming new v d content) (sym e) (bytes_content o q flow naming s sane write.labels k.numbers d t a j content from to m)
      | inr e ↦ (let one : Byte = record { content = content; tag = m.tag } in
          let r = k.numbers a one from to m.here in
          let none = e.0 in
          subst (λ v. InGammaContent gamma naming new v d content) (sym e.2) (subst (InGammaContent gamma naming new (number_value l (n.one (pos 0)) write.labels) d) (sym r.2) (r.3, λ (f : is_pointer d ≡ true). absurd (true≢false (sym f ∙ none)))))
    ]

  -- ---- leaves

  module _ (alone : Bool) (b : ℕ) (base : BaseInfo) (shape : IsShaped base) (single : alone ≡ true → 0 < size → (j : ℕ) → IsLiveOf naming old b j → j ≡ i) where
    module _ (j : ℕ) (leaf : Leaf) (at : slice_get base.shape.cells j ≡ Some leaf) (row : List (Cell I)) (there : leaf_position base j < length row) (cell : InGammaLeaf gamma flow naming old b leaf (value_at l n row (leaf_position base j))) where
      abbrev p : ℕ
      p = leaf_position base j

      -- the leaf is one place, all of it in the region
      covered_is : is_covered flow.model leaf write alone ≡ true → (alone ≡ true) × (leaf.count ≡ 1) × (offset ≤ leaf.offset) × (leaf.offset + class_bytes flow.model leaf.class ≤ offset + size)
      covered_is e = by_sure write.sure refl e
        where
          by_sure : (sure : Option Window) → write.sure ≡ sure → is_covered_by flow.model leaf alone sure ≡ true → (alone ≡ true) × (leaf.count ≡ 1) × (offset ≤ leaf.offset) × (leaf.offset + class_bytes flow.model leaf.class ≤ offset + size)
          by_sure None f g = cc
          by_sure (Some w) f g =
              let r = and_parts alone ((leaf.count == 1) && (nat_le w.lo leaf.offset && nat_le (last_byte flow.model leaf) w.hi)) g in
              let u = and_parts (leaf.count == 1) (nat_le w.lo leaf.offset && nat_le (last_byte flow.model leaf) w.hi) r.1 in
              let v = and_parts (nat_le w.lo leaf.offset) (nat_le (last_byte flow.model leaf) w.hi) u.1 in
              let lo = leb-true w.lo leaf.offset v.0 in
              let hi = leb-true (last_byte flow.model leaf) w.hi v.1 in
              let in_region = k.sure w f in
              let from = in_region.0 in
              let to = in_region.1 in
              let fits = s.fits in
              let small = sane.small i in
              let same = s.lengths i in
              let some = class_above flow.model leaf.class in
              (r.0, eqb-true leaf.count 1 u.0, omega (arith, from, lo), omega (arith, hi, to, fits, small, same, some))

      one_place : leaf.count ≡ 1 → (a : ℕ) → IsPlaceOf leaf a → a ≡ leaf.offset
      one_place one a place =
          let few = place.few in
          let e : place.turn ≡ 0 = omega (arith, few, one) in
          place.there ∙ (ap (λ z. leaf.offset + leaf.stride * z) e ∙ omega arith)

      by_covered : (c : Bool) → is_covered flow.model leaf write alone ≡ c → InGammaLeaf gamma flow naming new b leaf (value_at l n (cond c (write_value l n row p (covered_value l n flow.model leaf.class leaf.signed write) true) (write_value l n row p (byte_written l n flow.model leaf.class leaf.signed write.labels) false)) p)
      by_covered false e = subst (InGammaLeaf gamma flow naming new b leaf) (sym (write_is l n flow.model row p (byte_written l n flow.model leaf.class leaf.signed write.labels) false there))
          (cell_numbers o q flow naming s sane write.labels k.numbers leaf.class leaf.signed b (λ size a. IsPlaceOf leaf a) (OwnedByLeaf flow.model leaf) (value_at l n row p) (value_at_near o q row p) cell)
      by_covered true e =
          let c = covered_is e in
          let from = c.2 in
          let to = c.3 in
          let some = class_above flow.model leaf.class in
          let one : (h : ℕ) → IsLiveOf naming old b h → h ≡ i = single c.0 (omega (arith, from, to, some)) in
          subst (InGammaLeaf gamma flow naming new b leaf) (sym (write_is l n flow.model row p (covered_value l n flow.model leaf.class leaf.signed write) true there))
          (cell_covered o q flow naming s b leaf.class leaf.signed (λ size a. IsPlaceOf leaf a) (OwnedByLeaf flow.model leaf) (covered_value l n flow.model leaf.class leaf.signed write) (covered_near leaf.class leaf.signed)
          (λ a ns u place z g h ptr held. let at_offset = one_place c.1 a place in covered_number leaf.class leaf.signed a ns (omega (arith, from, at_offset)) (omega (arith, to, at_offset)) ptr held)
          (λ a y content u owns g h m. covered_content leaf.class leaf.signed a y content g h m)
          (value_at l n row p) cell
          (λ h a u place. let at_offset = one_place c.1 a place in (one h u, omega (arith, from, to, some), omega (arith, at_offset, to, some), omega (arith, at_offset, from, some)))
          (λ h a y u owns.
          let at_offset = one_place c.1 owns.start owns.place in
          let sum = owns.there in
          let small = owns.small in
          (one h u, omega (arith, sum, at_offset, from), omega (arith, sum, at_offset, to, small))))

      by_hit : (hit : Bool) → is_overlapped flow.model leaf write.window ≡ hit → InGammaLeaf gamma flow naming new b leaf (value_at l n (cond hit (fill_leaf l n flow.model leaf write alone p row) row) p)
      unfolding fill_leaf
      by_hit true e = by_covered (is_covered flow.model leaf write alone) refl
      by_hit false e = leaf_missed o q flow naming s b leaf write.window (shape.strides j leaf at) k.window e (value_at l n row p) cell

      pub leaf_filled : InGammaLeaf gamma flow naming new b leaf (value_at l n (fill_leaf_of l n flow.model base write alone leaf j row) (leaf_position base j))
      unfolding fill_leaf_of
      leaf_filled = by_hit (is_overlapped flow.model leaf write.window) refl

    -- ---- class cells

    module _ (row : List (Cell I)) (states : (j : ℕ) → base.shape.heap ≡ true → naming j ≡ Some b → InGammaState gamma naming old (state_at l n row (state_position base)) (life_at old j) (length (bytes_at old j))) (heap : base.shape.heap ≡ true) where
      -- the region is all of the instance
      is_whole : clears_instance l n base row write ≡ true → IsLiveOf naming old b i → (write.zero ≡ true) × (offset ≡ 0) × (length (bytes_at old i) ≤ size)
      unfolding clears_instance
      is_whole e u =
          let r = and_parts (write.zero && is_from_start write.start) (holds_whole write.least (n.bounds (state_at l n row (state_position base)).size)) e in
          let z = and_parts write.zero (is_from_start write.start) r.0 in
          let y = and_parts (write.start.lo == 0) (write.start.hi == 0) z.1 in
          let hi = eqb-true write.start.hi 0 y.1 in
          let below = k.start.1 in
          let st = (subst (λ life. InGammaState gamma naming old (state_at l n row (state_position base)) life (length (bytes_at old i))) u.alive (states i heap u.named)).0 in
          let at = q.inside (state_at l n row (state_position base)).size (pos (length (bytes_at old i))) st in
          let w : holds_whole write.least (Some (at.0, at.1)) ≡ true = subst (λ t. holds_whole write.least t ≡ true) at.2 r.1 in
          let high : at.1 ≤ℤ write.least = grind (arith, ints) in
          let least = k.least in
          let top = at.4 in
          (z.0, omega (arith, hi, below), omega (arith, ints, high, least, top))

      module _ (c : Class) where
        -- the value with which a class cell is joined stands for what is set
        class_stands : (cleared : Bool) → clears_instance l n base row write ≡ cleared → (y : values.Value I) → IsNearValue l n y → InGammaClass gamma flow naming old b base c y → InGammaClass gamma flow naming new b base c (written l n flow.model y (class_value l n flow.model c write cleared) false)
        class_stands false e y fine cell = cell_numbers o q flow naming s sane write.labels k.numbers c true b (IsClassPlace flow.model base.shape.cells c) (OwnedByClass flow.model base.shape.cells c) y fine cell
        class_stands true e y fine cell = cell_joined o q flow naming s b c true (IsClassPlace flow.model base.shape.cells c) (OwnedByClass flow.model base.shape.cells c) (covered_value l n flow.model c true write) (covered_near c true)
            (λ a ns u place z from to ptr held.
            let w = is_whole e u in
            let w1 = w.1 in
            let w2 = w.2 in
            let fits = place.fits in
            covered_number c true a ns (omega (arith, w1)) (omega (arith, w2, fits)) ptr held)
            (λ a j content u owns from to m. covered_content c true a j content from to m)
            y fine cell

    -- a class cell that is joined
    pub class_joined : (c : Class) (at : ℕ) (row r : List (Cell I)) (cleared : Bool) → clears_instance l n base row write ≡ cleared → base.shape.heap ≡ true
        → ((j : ℕ) → base.shape.heap ≡ true → naming j ≡ Some b → InGammaState gamma naming old (state_at l n row (state_position base)) (life_at old j) (length (bytes_at old j)))
        → class_position base at < length r → InGammaClass gamma flow naming old b base c (value_at l n r (class_position base at)) → InGammaClass gamma flow naming new b base c (value_at l n (join_value l n r (class_position base at) (class_value l n flow.model c write cleared)) (class_position base at))
    class_joined c at row r cleared e heap states there cell =
        subst (InGammaClass gamma flow naming new b base c) (sym (join_is l n flow.model r (class_position base at) (class_value l n flow.model c write cleared) there))
        (class_stands row states heap c cleared e (value_at l n r (class_position base at)) (value_at_near o q r (class_position base at)) cell)

    -- the class cell of characters
    pub char_filled : (row r : List (Cell I)) (cleared : Bool) → clears_instance l n base row write ≡ cleared → base.shape.heap ≡ true
        → ((j : ℕ) → base.shape.heap ≡ true → naming j ≡ Some b → InGammaState gamma naming old (state_at l n row (state_position base)) (life_at old j) (length (bytes_at old j)))
        → class_position base 0 < length r → InGammaClass gamma flow naming old b base Char (value_at l n r (class_position base 0)) → InGammaClass gamma flow naming new b base Char (value_at l n (fill_stray l n flow.model base write cleared r) (class_position base 0))
    char_filled row r cleared e heap states there cell = by_stray (has_stray base.shape.cells Char write.window) refl
      where
        by_stray : (stray : Bool) → has_stray base.shape.cells Char write.window ≡ stray → InGammaClass gamma flow naming new b base Char (value_at l n (cond stray (join_value l n r (class_position base 0) (class_value l n flow.model Char write cleared)) r) (class_position base 0))
        by_stray true f = class_joined Char 0 row r cleared e heap states there cell
        by_stray false f = char_missed o q flow naming s b base write.window shape heap k.window f (value_at l n r (class_position base 0)) cell

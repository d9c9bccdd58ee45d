-- The cells behind a copy of a struct stand for the memory behind it.
use Rattle.std.proofs.Common.{◌≡◌, ℕ, ◌+◌, ◌-◌, ◌<◌, ◌≤◌, ◌^◌, Bool, true, false, Option, Some, None, List, length, arith, subst, sym, refl, ap, ◌∙◌, inl, inr}
use Rattle.std.specs.Prelude.{slice_get, ℤ, max}
use Rattle.std.proofs.lemmas.Bool.{cases_Bool, cases_eq, cases_lt, true≢false}
use Rattle.std.proofs.lemmas.Option.{same_Some, slice_get_within}
use Rattle.cc_base.specs.Lattices.{LatticeOf, OrderLaws}
use Rattle.cc_base.specs.IntegerDomains.{IntegersOf, BoundLaws, RangeLaws}
use Rattle.cc_base.specs.IntegerLaws.{SoundLaws}
use Rattle.c_layout.specs.declared.data_model.Model.{Model}
use Rattle.c_layout.specs.declared.leaf_lists.Class.{Class}
use Rattle.c_layout.specs.declared.leaf_lists.Class.TheVariants.{Char}
use Rattle.c_layout.specs.declared.leaf_lists.Leaf.{Leaf}
use Rattle.c_layout.specs.declared.shapes.BaseInfo.{BaseInfo}
use Rattle.cfg.specs.WellFormed.{base_cells}
use Rattle.cfg.specs.declared.programs.Flow.{Flow}
use Rattle.value_domain.specs.declared.values.row_cells.Cell.{Cell}
use Rattle.store_cells.specs.ClassNumbers.{class_at, is_pointer}
use Rattle.store_cells.specs.RowPositions.{value_at}
use Rattle.memory_model.specs.Memory.ScalarSizes.{class_bytes, same_class}
use Rattle.memory_model.specs.Memory.Bytes.{Content, indeterminate, number, part, Tag, Byte}
use Rattle.memory_model.specs.Memory.Instances.{Memory, bytes_at, byte_at}
use Rattle.memory_model.specs.Memory.Numbers.{Labelled, number_of}
use Rattle.memory_model.specs.Memory.Tags.{or_tag, tag_at}
use Rattle.memory_model.specs.Effects.StructCopies.{fits_leaf, may_be_copied, copied_tag}
use Rattle.memory_model.specs.Effects.Touches.{is_allocated, storage_at}
use Rattle.store_sound.specs.Concretization.Matching.{Fits, Matched, number_in, Holds}
use Rattle.store_sound.specs.Concretization.Places.{OwnedByLeaf, IsLeafPlace}
use Rattle.store_sound.specs.Concretization.SoundMemory.{IsMemoryOf}
use Rattle.store_sound.specs.Concretization.ValueMeaning.{Naming}
use Rattle.store_sound.specs.Concretization.RowMeaning.{IsLiveOf}
use Rattle.store_sound.proofs.operations.Classes.{class_above, same_class_is}
use Rattle.store_sound.proofs.operations.Frames.{in_or_out, live_moves, content_moves}
use Rattle.store_sound.proofs.operations.Slices.{get_there}
use Rattle.store_sound.proofs.operations.StoreRows.{zero_is}
use Rattle.store_sound.proofs.operations.TagPlaces.{is_tagged}
use Rattle.store_sound.specs.Regions.RegionWrites.{InGammaBase}
use Rattle.store_sound.proofs.regions.Regions.{alike_region}
use Rattle.store_structs.specs.PaddingWrites.{unknown_value, write_padding}
use Rattle.store_structs.specs.StructCopies.{finish}
use Rattle.struct_copies_sound.specs.Cells.LeafWrites.{Fact, of_number, of_content, IsTold}
use Rattle.struct_copies_sound.proofs.leaves.Cells.{CellName, leaf_cell, class_cell, IsThere, position, class_of, signed_of, Place, Owns, place_owns, StandsName, name_stands}
use Rattle.struct_copies_sound.proofs.leaves.Copies.{Copied, Came, route, fits_base, position_in, spared}
use Rattle.struct_copies_sound.proofs.leaves.ReadValues.{IsNoPart, AreBytes}
use Rattle.struct_copies_sound.proofs.leaves.SourceReads.{wide_fits, allocated_is}
use Rattle.struct_copies_sound.proofs.batches.Known.{Told, Spares, Makes, Known, kept, made, Behind}
use Rattle.struct_copies_sound.proofs.batches.MadeCells.{others_spare, own_content, own_number, wide_spares, takes_content, takes_number}
use Rattle.struct_copies_sound.proofs.batches.PaddedCells.{Good, NoZero, unknown_number, unknown_content, padded_leaf, padded_class, finish_keeps, finish_makes}
use Rattle.struct_copies_sound.proofs.batches.StructPadding.{pad, some_padding, leaf_met}

no_part : (c : Content) → may_be_copied c None ≡ true → IsNoPart c
no_part indeterminate h = tt
no_part (number n labels) h = tt
no_part (part p k) h = absurd (true≢false (sym h))

-- a cell's byte has a number below the size of its class
owns_small : (model : Model) (base : BaseInfo) (x : CellName) (y m : ℕ) → Owns model base x y m → m < class_bytes model (class_of model base x)
owns_small model base (leaf_cell j leaf) y m o = o.small
owns_small model base (class_cell d) y m o = o.small

fits_same : (class : Class) (m : ℕ) (t : Tag) (tag : Option Tag) → tag ≡ Some t → Fits class m tag → (class ≡ t.class) × (m ≡ t.at)
fits_same class m t tag e f = let g = subst (Fits class m) e f in (sym g.0, sym g.1)

-- a tag that fits and is there
tag_there : (class : Class) (m : ℕ) (tag : Option Tag) → Fits class m tag → (tag ≡ None → ⊥) → (t : Tag) × (tag ≡ Some t) × (t.class ≡ class) × (t.at ≡ m)
tag_there class m None f some = absurd (some refl)
tag_there class m (Some t) f some = (t, refl, f.0, f.1)

module _ {flow : Flow} {naming : Naming} {old new : Memory} (k : Copied flow naming old new) (few : length k.leaves ≤ 2 ^ 62) {I : Type 0} {l : LatticeOf I} {n : IntegersOf I} {gamma : I → ℤ → Type 0} (o : OrderLaws l) (q : BoundLaws l n gamma) (c : SoundLaws l n gamma) (r : RangeLaws l n)
    (row : List (Cell I)) (wide : k.laid.behind ≤ length row) (stand : (b : ℕ) (base : BaseInfo) → slice_get flow.bases.items b ≡ Some base → InGammaBase l n gamma flow naming old b base row)
    (sane : IsMemoryOf flow.model flow.bases.items naming new) (mid : List (Cell I)) (behind : Behind k few o q c r row wide stand row 0 (length k.leaves) mid) where
  abbrev pub after : List (Cell I)
  after = finish l n (route k) (pad k) mid

  abbrev After : Fact → ℕ → Type 0
  After f p = IsTold l n gamma f (value_at l n (finish l n (route k) (pad k) mid) p)

  -- ---- a cell of a base

  module _ (d : ℕ) (base : BaseInfo) (at : slice_get flow.bases.items d ≡ Some base) (x : CellName) (there : IsThere flow.model base x) where
    abbrev pos : ℕ
    pos = position flow.model base x

    in_row : position flow.model base x < length row
    in_row = let a = position_in k d base at x there in let b = a.1 in let e = k.laid.laid.close d base at in omega (arith, b, e, wide)

    no_zero : (f : Fact) (b : ℕ) (other : BaseInfo) → slice_get flow.bases.items b ≡ Some other → NoZero o q f (position flow.model base x) (length row) in_row other
    no_zero f b other e z piece g same =
        let u = slice_get_within other.shape.zeros z piece g in
        let y = zero_is other z (fits_base k b other e) (omega (arith, u)) in
        let a = position_in k d base at x there in
        let a0 = a.0 in
        let a1 = a.1 in
        elim (cases_eq b d) [
          | inl is ↦ (let t : other ≡ base = same_Some other base (sym e ∙ (ap (slice_get flow.bases.items) is ∙ at)) in
              let first : other.first ≡ base.first = ap (λ (w : BaseInfo). w.first) t in
              let cells : base_cells other ≡ base_cells base = ap base_cells t in
              omega (arith, y, a1, same, first, cells))
          | inr ne ↦ elim (k.laid.laid.apart b d other base e at ne) [ inl t ↦ omega (arith, t, u, y, a0, a1, same) | inr t ↦ omega (arith, t, u, y, a0, a1, same) ]
        ]

    known_after : (f : Fact) → Known k few o q c r row wide stand (Told k few o q c r row wide stand f (position flow.model base x) row) 0 (length k.leaves) (position flow.model base x) f → After f (position flow.model base x)
    known_after f known = (finish_keeps o q f (position flow.model base x) (length row) in_row (route k) (pad k) (fits_base k) (no_zero f) mid
        (record { long = behind.long; good = behind.told (position flow.model base x) f in_row known })).good

    -- what stands for bytes outside the region is kept
    kept_after : (f : Fact) (h y m : ℕ) → IsLiveOf naming old d h → Owns flow.model base x y m → (h ≡ k.i → k.offset ≤ y → y < k.offset + k.size → ⊥) → Told k few o q c r row wide stand f (position flow.model base x) row → After f (position flow.model base x)
    kept_after f h y m alive owns none told = known_after f (kept told (λ at_number leaf from to e. spared k at_number d base leaf e at x there h y m alive owns
        (λ same start owned. let inside = k.struct.inside at_number (y - k.offset) m leaf e owned in none same start (omega (arith, start, inside)))))

  -- ---- a cell of the target

  module _ (x : CellName) (there : IsThere flow.model k.target_side.base x) where
    abbrev spot : ℕ
    spot = position flow.model k.target_side.base x

    made_after : (f : Fact) (at : ℕ) (leaf : Leaf) (e : slice_get k.leaves at ≡ Some leaf) → Makes k few o q c r row wide stand leaf (position flow.model k.target_side.base x) f
        → ((other : ℕ) (y : Leaf) → (other ≡ at → ⊥) → slice_get k.leaves other ≡ Some y → Spares k few o q c r row wide stand y (position flow.model k.target_side.base x)) → After f (position flow.model k.target_side.base x)
    made_after f at leaf e makes spares = known_after k.target_side.b k.target_side.base k.target_side.at x there f (made at leaf (omega arith) (slice_get_within k.leaves at leaf e) e makes (λ other y from to ne g. spares other y ne g))

    -- padding makes of the cell what stands for everything
    padded_after : (f : Fact) (d m : ℕ) (inside : d < k.size) (none : tag_at flow.model k.leaves d ≡ None) → Owns flow.model k.target_side.base x (k.offset + d) m
        → IsTold l n gamma f (unknown_value l n flow.model (class_of flow.model k.target_side.base x) (signed_of flow.model k.target_side.base x)) → After f (position flow.model k.target_side.base x)
    padded_after f d m inside none owns good = (finish_makes o q f (position flow.model k.target_side.base x) (length row) here (route k) (pad k) (fits_base k) (no_zero k.target_side.b k.target_side.base k.target_side.at x there f)
        k.target_side.b k.target_side.base k.target_side.at k.target_side.has (some_padding k d inside none) (λ s size. by_cell x there owns good (no_zero k.target_side.b k.target_side.base k.target_side.at x there f k.target_side.b k.target_side.base k.target_side.at) s size) mid behind.long).good
      where
        here : position flow.model k.target_side.base x < length row
        here = in_row k.target_side.b k.target_side.base k.target_side.at x there

        by_cell : (y : CellName) (h : IsThere flow.model k.target_side.base y) → Owns flow.model k.target_side.base y (k.offset + d) m → IsTold l n gamma f (unknown_value l n flow.model (class_of flow.model k.target_side.base y) (signed_of flow.model k.target_side.base y))
            → NoZero o q f (position flow.model k.target_side.base y) (length row) (in_row k.target_side.b k.target_side.base k.target_side.at y h) k.target_side.base → (s : List (Cell I)) → length s ≡ length row
            → Good o q f (position flow.model k.target_side.base y) (length row) (in_row k.target_side.b k.target_side.base k.target_side.at y h) (write_padding l n flow.model k.target_side.base (pad k) s)
        by_cell (leaf_cell j leaf) h w g free s size = padded_leaf o q f (position flow.model k.target_side.base (leaf_cell j leaf)) (length row) (in_row k.target_side.b k.target_side.base k.target_side.at (leaf_cell j leaf) h) flow.model (pad k) k.target_side.base free j leaf h refl
            (leaf_met k d inside none leaf m (k.few k.target_side.b k.target_side.base k.target_side.at j leaf h) w) g s size
        by_cell (class_cell z) h w g free s size = padded_class o q f (position flow.model k.target_side.base (class_cell z)) (length row) (in_row k.target_side.b k.target_side.base k.target_side.at (class_cell z) h) flow.model (pad k) k.target_side.base free h.0 z h.1 refl g s size

    -- where a byte of the cell in the region comes from
    data ByteOf (d m : ℕ) : Type 0 where
      of_padding : tag_at flow.model k.leaves d ≡ None → ByteOf d m
      of_own : (at : ℕ) (leaf : Leaf) → slice_get k.leaves at ≡ Some leaf → class_of flow.model k.target_side.base x ≡ leaf.class → OwnedByLeaf flow.model leaf d m → ByteOf d m
      of_character : (at : ℕ) (leaf : Leaf) → slice_get k.leaves at ≡ Some leaf → leaf.class ≡ Char → same_class (class_of flow.model k.target_side.base x) Char ≡ false → k.target_side.base.shape.heap ≡ false → OwnedByLeaf flow.model leaf d 0 → ByteOf d m

    module _ (d m : ℕ) (inside : d < k.size) (small : m < class_bytes flow.model (class_of flow.model k.target_side.base x)) (y : Byte) (here : byte_at new k.i (k.offset + d) ≡ Some y) (fits : Fits (class_of flow.model k.target_side.base x) m y.tag) where
      came : Came flow.model k.leaves old k.i k.offset k.j k.at (k.offset + d) y
      came = k.came (k.offset + d) y (omega arith) (omega (arith, inside)) here

      back : (k.offset + d) - k.offset ≡ d
      back = omega arith

      allocated : is_allocated (storage_at old k.i) ≡ k.target_side.base.shape.heap
      allocated = allocated_is flow naming old k.sane k.padding k.target_side.b k.target_side.base k.target_side.at (k.laid.shaped.each k.target_side.b k.target_side.base k.target_side.at) k.i k.target_side.named k.target_side.alive

      of_leaf : (t : Tag) → tag_at flow.model k.leaves d ≡ Some t → (at : ℕ) (leaf : Leaf) → slice_get k.leaves at ≡ Some leaf → t.class ≡ leaf.class → OwnedByLeaf flow.model leaf d t.at → (heap : Bool) → k.target_side.base.shape.heap ≡ heap → ByteOf d m
      of_leaf t f at leaf e class owned true heap =
          let tag : y.tag ≡ Some t = came.tag ∙ ((λ i. copied_tag ((allocated ∙ heap) i) (tag_at flow.model k.leaves (back i)) came.was.tag) ∙ ap (λ z. or_tag z came.was.tag) f) in
          let s = fits_same (class_of flow.model k.target_side.base x) m t y.tag tag fits in
          of_own at leaf e (s.0 ∙ class) (subst (OwnedByLeaf flow.model leaf d) (sym s.1) owned)
      of_leaf t f at leaf e class owned false heap =
          let plain = allocated ∙ heap in
          let tag : y.tag ≡ came.was.tag = came.tag ∙ (λ i. copied_tag (plain i) (tag_at flow.model k.leaves ((k.offset + d) - k.offset)) came.was.tag) in
          let seen : fits_leaf false (Some t) came.was ≡ true = subst (λ z. fits_leaf false z came.was ≡ true) (ap (tag_at flow.model k.leaves) back ∙ f) (came.seen_there plain) in
          elim (cases_Bool (same_class t.class Char)) [
            | inr broad ↦ (let w = wide_fits false t.class t.at came.was broad seen in
                let u = tag_there t.class t.at came.was.tag w.0 (w.1 refl) in
                let s = fits_same (class_of flow.model k.target_side.base x) m u.0 y.tag (tag ∙ u.1) fits in
                of_own at leaf e (s.0 ∙ (u.2 ∙ class)) (subst (OwnedByLeaf flow.model leaf d) (sym (s.1 ∙ u.3)) owned))
            | inl char ↦ (let is : leaf.class ≡ Char = sym class ∙ same_class_is t.class Char char in
                let one : class_bytes flow.model leaf.class ≡ 1 = ap (class_bytes flow.model) is in
                let few_bytes = owned.small in
                let first : t.at ≡ 0 = omega (arith, one, few_bytes) in
                elim (cases_Bool (same_class (class_of flow.model k.target_side.base x) Char)) [
                  | inr broad ↦ of_character at leaf e is broad heap (subst (OwnedByLeaf flow.model leaf d) first owned)
                  | inl also ↦ (let cell : class_of flow.model k.target_side.base x ≡ Char = same_class_is (class_of flow.model k.target_side.base x) Char also in
                      let one_too : class_bytes flow.model (class_of flow.model k.target_side.base x) ≡ 1 = ap (class_bytes flow.model) cell in
                      let zeroth : m ≡ t.at = omega (arith, one_too, small, first) in
                      of_own at leaf e (cell ∙ sym is) (subst (OwnedByLeaf flow.model leaf d) (sym zeroth) owned))
                ])
          ]

      byte_of : (tag : Option Tag) → tag_at flow.model k.leaves d ≡ tag → ByteOf d m
      byte_of None f = of_padding f
      byte_of (Some t) f = let w = is_tagged flow.model k.leaves d t f in of_leaf t f w.index w.leaf w.among w.class w.owned k.target_side.base.shape.heap refl

      -- the cell stands for the byte
      content_after : Owns flow.model k.target_side.base x (k.offset + d) m → After (of_content naming old (class_of flow.model k.target_side.base x) y.content) (position flow.model k.target_side.base x)
      content_after owns = by_byte (byte_of (tag_at flow.model k.leaves d) refl)
        where
          by_taken : (z : CellName) (h : IsThere flow.model k.target_side.base z) → x ≡ z → (at : ℕ) (leaf : Leaf) → slice_get k.leaves at ≡ Some leaf → leaf.class ≡ Char → k.target_side.base.shape.heap ≡ false → OwnedByLeaf flow.model leaf d 0 → Owns flow.model k.target_side.base z (k.offset + d) m → same_class (class_of flow.model k.target_side.base z) Char ≡ false
              → (Makes k few o q c r row wide stand leaf (position flow.model k.target_side.base z) (of_content naming old (class_of flow.model k.target_side.base z) y.content))
              × ((other : ℕ) (w : Leaf) → (other ≡ at → ⊥) → slice_get k.leaves other ≡ Some w → Spares k few o q c r row wide stand w (position flow.model k.target_side.base z))
          by_taken (class_cell z) h same at leaf e is heap own w broad = absurd (true≢false (sym h.0 ∙ heap))
          by_taken (leaf_cell i z) h same at leaf e is heap own w broad = (
            takes_content k few o q c r row wide stand at leaf e is i z h broad d m own w y here,
            λ other u ne g. wide_spares k few o q c r row wide stand at leaf e is i z h broad d m own w y here other u g ne,
          )

          by_byte : ByteOf d m → After (of_content naming old (class_of flow.model k.target_side.base x) y.content) (position flow.model k.target_side.base x)
          by_byte (of_padding none) = padded_after (of_content naming old (class_of flow.model k.target_side.base x) y.content) d m inside none owns
              (unknown_content o q flow.model (class_of flow.model k.target_side.base x) (signed_of flow.model k.target_side.base x) naming old y.content
              (no_part y.content (subst (λ z. may_be_copied z None ≡ true) (sym came.content) (subst (λ z. may_be_copied came.source.content z ≡ true) (ap (tag_at flow.model k.leaves) back ∙ none) came.may))))
          by_byte (of_own at leaf e same owned) = made_after (of_content naming old (class_of flow.model k.target_side.base x) y.content) at leaf e
              (own_content k few o q c r row wide stand at leaf e x there same d m owned owns y here)
              (λ other z ne g. others_spare k few o q c r row wide stand at leaf e x there same d m owned owns other z ne g)
          by_byte (of_character at leaf e is broad heap owned) =
              let t = by_taken x there refl at leaf e is heap owned owns broad in
              made_after (of_content naming old (class_of flow.model k.target_side.base x) y.content) at leaf e t.0 t.1

      -- and for the number at the place of the byte
      number_after : (start : ℕ) → start + m ≡ k.offset + d → Place flow.model k.target_side.base x (length (bytes_at new k.i)) start → Owns flow.model k.target_side.base x (k.offset + d) m → (ns : List Labelled) → is_pointer (class_of flow.model k.target_side.base x) ≡ false → Holds flow.model new k.i start (class_of flow.model k.target_side.base x) ns
          → After (of_number (number_of (signed_of flow.model k.target_side.base x) ns)) (position flow.model k.target_side.base x)
      number_after start apart place owns ns pointer held = by_byte (byte_of (tag_at flow.model k.leaves d) refl)
        where
          are_bytes : AreBytes ns
          are_bytes a z g =
              let w = held.each a z (slice_get_within ns a z g) g in
              sane.bytes k.i (start + a) (record { content = number_in z; tag = w.tag }) w.here

          by_taken : (z : CellName) (h : IsThere flow.model k.target_side.base z) → (at : ℕ) (leaf : Leaf) → slice_get k.leaves at ≡ Some leaf → leaf.class ≡ Char → k.target_side.base.shape.heap ≡ false → OwnedByLeaf flow.model leaf d 0 → Owns flow.model k.target_side.base z (k.offset + d) m → same_class (class_of flow.model k.target_side.base z) Char ≡ false
              → is_pointer (class_of flow.model k.target_side.base z) ≡ false → length ns ≡ class_bytes flow.model (class_of flow.model k.target_side.base z)
              → (Makes k few o q c r row wide stand leaf (position flow.model k.target_side.base z) (of_number (number_of (signed_of flow.model k.target_side.base z) ns)))
              × ((other : ℕ) (w : Leaf) → (other ≡ at → ⊥) → slice_get k.leaves other ≡ Some w → Spares k few o q c r row wide stand w (position flow.model k.target_side.base z))
          by_taken (class_cell z) h at leaf e is heap own w broad p size = absurd (true≢false (sym h.0 ∙ heap))
          by_taken (leaf_cell i z) h at leaf e is heap own w broad p size = (
            takes_number k few o q c r row wide stand at leaf e is i z h broad d m own w y here ns p size are_bytes,
            λ other u ne g. wide_spares k few o q c r row wide stand at leaf e is i z h broad d m own w y here other u g ne,
          )

          by_byte : ByteOf d m → After (of_number (number_of (signed_of flow.model k.target_side.base x) ns)) (position flow.model k.target_side.base x)
          by_byte (of_padding none) = padded_after (of_number (number_of (signed_of flow.model k.target_side.base x) ns)) d m inside none owns
              (unknown_number o q flow.model (class_of flow.model k.target_side.base x) (signed_of flow.model k.target_side.base x) ns pointer held.size are_bytes)
          by_byte (of_own at leaf e same owned) =
              let there_too = owned.there in
              let at_start : start ≡ k.offset + owned.start = omega (arith, apart, there_too) in
              let first : OwnedByLeaf flow.model leaf owned.start 0 = record { start = owned.start; place = owned.place; there = omega arith; small = class_above flow.model leaf.class } in
              let owns_first : Owns flow.model k.target_side.base x (k.offset + owned.start) 0 = subst (λ z. Owns flow.model k.target_side.base x z 0) at_start (place_owns flow.model k.target_side.base x start (length (bytes_at new k.i)) place) in
              made_after (of_number (number_of (signed_of flow.model k.target_side.base x) ns)) at leaf e
              (own_number k few o q c r row wide stand at leaf e x there same owned.start owned.place owns_first ns pointer (subst (λ z. Holds flow.model new k.i z (class_of flow.model k.target_side.base x) ns) at_start held))
              (λ other z ne g. others_spare k few o q c r row wide stand at leaf e x there same owned.start 0 first owns_first other z ne g)
          by_byte (of_character at leaf e is broad heap owned) =
              let t = by_taken x there at leaf e is heap owned owns broad pointer held.size in
              made_after (of_number (number_of (signed_of flow.model k.target_side.base x) ns)) at leaf e t.0 t.1

  -- ---- all cells

  module _ (d : ℕ) (base : BaseInfo) (at : slice_get flow.bases.items d ≡ Some base) (x : CellName) (there : IsThere flow.model base x) where
    cell : StandsName l n gamma flow naming old d base x (value_at l n row (position flow.model base x))
    cell = name_stands l n gamma flow naming old d base row (stand d base at) x there

    -- the base of the region's instance is the target's
    same_base : (h : ℕ) → IsLiveOf naming old d h → h ≡ k.i → base ≡ k.target_side.base
    same_base h alive is =
        let same : d ≡ k.target_side.b = same_Some d k.target_side.b (sym alive.named ∙ (ap naming is ∙ k.target_side.named)) in
        same_Some base k.target_side.base (sym at ∙ (ap (slice_get flow.bases.items) same ∙ k.target_side.at))

    matched_out : (h y m : ℕ) (class : Class) (z : Content) → (h ≡ k.i → k.offset ≤ y → y < k.offset + k.size → ⊥) → Matched new h y class m z → Matched old h y class m z
    matched_out h y m class z none w = record { tag = w.tag; here = sym (k.region.outside h y none) ∙ w.here; fits = w.fits }

    byte_after : (h y m : ℕ) (z : Content) → IsLiveOf naming old d h → Owns flow.model base x y m → Matched new h y (class_of flow.model base x) m z → After (of_content naming old (class_of flow.model base x) z) (position flow.model base x)
    byte_after h y m z alive owns w = elim (in_or_out h k.i y k.offset k.size) [
      | inr out ↦ kept_after d base at x there (of_content naming old (class_of flow.model base x) z) h y m alive owns out (cell.byte h y m z alive owns (matched_out h y m (class_of flow.model base x) z out w))
      | inl p ↦ (let from = p.1 in
          let to = p.2 in
          let spot : y ≡ k.offset + (y - k.offset) = omega (arith, from) in
          in_target (same_base h alive p.0) x there (subst (λ b. Owns flow.model base x b m) spot owns) (y - k.offset) refl (omega (arith, from, to)) (record { content = z; tag = w.tag }) refl
          (subst (λ b. byte_at new k.i b ≡ Some (record { content = z; tag = w.tag })) spot (subst (λ b. byte_at new b y ≡ Some (record { content = z; tag = w.tag })) p.0 w.here)) w.fits)
    ]
      where
        in_target : base ≡ k.target_side.base → (v : CellName) → IsThere flow.model base v → Owns flow.model base v (k.offset + (y - k.offset)) m → (b : ℕ) → b ≡ y - k.offset → b < k.size → (byte : Byte) → byte.content ≡ z → byte_at new k.i (k.offset + (y - k.offset)) ≡ Some byte → Fits (class_of flow.model base v) m byte.tag → After (of_content naming old (class_of flow.model base v) z) (position flow.model base v)
        in_target same v h own b is inside byte content here fits =
            subst (λ (t : BaseInfo). (u : IsThere flow.model t v) → Owns flow.model t v (k.offset + (y - k.offset)) m → Fits (class_of flow.model t v) m byte.tag → After (of_content naming old (class_of flow.model t v) z) (position flow.model t v)) (sym same)
            (λ u own2 fits2. subst (λ e. After (of_content naming old (class_of flow.model k.target_side.base v) e) (position flow.model k.target_side.base v)) content
            (content_after v u (y - k.offset) m (omega (arith, is, inside)) (owns_small flow.model k.target_side.base v (k.offset + (y - k.offset)) m own2) byte here fits2 own2))
            h own fits

    -- the bytes of a place that meets the region have one in it
    number_here : (h start : ℕ) (ns : List Labelled) → IsLiveOf naming old d h → Place flow.model base x (length (bytes_at new h)) start → is_pointer (class_of flow.model base x) ≡ false → Holds flow.model new h start (class_of flow.model base x) ns → After (of_number (number_of (signed_of flow.model base x) ns)) (position flow.model base x)
    number_here h start ns alive place pointer held = elim (cases_eq h k.i) [
      | inr ne ↦ outside (λ a is from to. ne is)
      | inl is ↦ elim (cases_lt start (k.offset + k.size)) [
        | inr far ↦ outside (λ a w from to. omega (arith, far, to))
        | inl before ↦ elim (cases_lt k.offset (start + class_bytes flow.model (class_of flow.model base x))) [
          | inr far ↦ outside_before far
          | inl behind_it ↦ elim (cases_lt 0 k.size) [
            | inr none ↦ outside (λ a w from to. omega (arith, none, from, to))
            | inl some ↦ in_target (same_base h alive is) x there is place pointer held before behind_it some
          ]
        ]
      ]
    ]
      where
        old_place : Place flow.model base x (length (bytes_at old h)) start
        old_place = subst (λ z. Place flow.model base x z start) (k.region.lengths h) place

        kept_number : ((a : ℕ) → a < length ns → h ≡ k.i → k.offset ≤ start + a → start + a < k.offset + k.size → ⊥) → After (of_number (number_of (signed_of flow.model base x) ns)) (position flow.model base x)
        kept_number none =
            let above = class_above flow.model (class_of flow.model base x) in
            let size = held.size in
            let zeroth : start + 0 ≡ start = omega arith in
            kept_after d base at x there (of_number (number_of (signed_of flow.model base x) ns)) h start 0 alive (place_owns flow.model base x start (length (bytes_at new h)) place)
            (λ is from to. none 0 (omega (arith, above, size)) is (omega (arith, from)) (omega (arith, to)))
            (cell.whole h start ns alive old_place pointer (record { size = held.size; each = λ a z small e. matched_out h (start + a) a (class_of flow.model base x) (number_in z) (none a small) (held.each a z small e) }))

        outside : ((a : ℕ) → h ≡ k.i → k.offset ≤ start + a → start + a < k.offset + k.size → ⊥) → After (of_number (number_of (signed_of flow.model base x) ns)) (position flow.model base x)
        outside none = kept_number (λ a small. none a)

        outside_before : start + class_bytes flow.model (class_of flow.model base x) ≤ k.offset → After (of_number (number_of (signed_of flow.model base x) ns)) (position flow.model base x)
        outside_before far = kept_number (λ a small is from to. let size = held.size in omega (arith, far, small, from, size))

        in_target : base ≡ k.target_side.base → (v : CellName) → IsThere flow.model base v → h ≡ k.i → Place flow.model base v (length (bytes_at new h)) start → is_pointer (class_of flow.model base v) ≡ false → Holds flow.model new h start (class_of flow.model base v) ns → start < k.offset + k.size → k.offset < start + class_bytes flow.model (class_of flow.model base v) → 0 < k.size
            → After (of_number (number_of (signed_of flow.model base v) ns)) (position flow.model base v)
        in_target same v u is p pt hd before behind_it some =
            subst (λ (t : BaseInfo). (w : IsThere flow.model t v) → Place flow.model t v (length (bytes_at new k.i)) start → is_pointer (class_of flow.model t v) ≡ false → Holds flow.model new k.i start (class_of flow.model t v) ns → k.offset < start + class_bytes flow.model (class_of flow.model t v) → After (of_number (number_of (signed_of flow.model t v) ns)) (position flow.model t v)) (sym same)
            (λ w p2 pt2 hd2 behind2.
            let at_byte : ℕ = max start k.offset in
            let m : ℕ = max start k.offset - start in
            let d2 : ℕ = max start k.offset - k.offset in
            let size = hd2.size in
            let above = class_above flow.model (class_of flow.model k.target_side.base v) in
            let lab = get_there ns (max start k.offset - start) (omega (arith, behind2, size, above)) in
            let by = hd2.each (max start k.offset - start) lab.0 (omega (arith, behind2, size, above)) lab.1 in
            let spot : start + (max start k.offset - start) ≡ k.offset + (max start k.offset - k.offset) = omega arith in
            number_after v w (max start k.offset - k.offset) (max start k.offset - start) (omega (arith, before, some)) (omega (arith, behind2, above)) (record { content = number_in lab.0; tag = by.tag })
            (subst (λ z. byte_at new k.i z ≡ Some (record { content = number_in lab.0; tag = by.tag })) spot by.here) by.fits start spot p2
            (subst (λ z. Owns flow.model k.target_side.base v z (max start k.offset - start)) spot (place_owns_at v w start (length (bytes_at new k.i)) (max start k.offset - start) (omega (arith, behind2, above)) p2)) ns pt2 hd2)
            u (subst (λ z. Place flow.model base v (length (bytes_at new z)) start) is p) pt (subst (λ z. Holds flow.model new z start (class_of flow.model base v) ns) is hd) behind_it
          where
            place_owns_at : (g : CellName) → IsThere flow.model k.target_side.base g → (at_place size m : ℕ) → m < class_bytes flow.model (class_of flow.model k.target_side.base g) → Place flow.model k.target_side.base g size at_place → Owns flow.model k.target_side.base g (at_place + m) m
            place_owns_at (leaf_cell j leaf) w at_place size m less pl = record { start = at_place; place = pl; there = refl; small = less }
            place_owns_at (class_cell z) w at_place size m less pl = record { small = less; no_leaf = λ s e lp. pl.no_leaf (subst (IsLeafPlace k.target_side.base.shape.cells (class_at z)) (let f : s ≡ at_place = omega (arith, e) in f) lp) }

    pub name_after : StandsName l n gamma flow naming new d base x (value_at l n (finish l n (route k) (pad k) mid) (position flow.model base x))
    name_after = record {
      whole = λ h start ns alive place pointer held. number_here h start ns (live_moves (alike_region k.region) naming d h alive) place pointer held;
      byte = λ h y m z alive owns w. content_moves (alike_region k.region) gamma naming (value_at l n (finish l n (route k) (pad k) mid) (position flow.model base x)) (class_of flow.model base x) z
          (byte_after h y m z (live_moves (alike_region k.region) naming d h alive) owns w);
    }

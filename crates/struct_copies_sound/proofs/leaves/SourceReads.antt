-- What a leaf's read gives for the bytes of the source, where the row tells what its cells hold of them.
use Rattle.std.proofs.Common.{◌≡◌, ℕ, zero, suc, ◌+◌, ◌-◌, ◌<◌, ◌≤◌, ◌^◌, Bool, true, false, ◌||◌, Option, Some, None, List, length, arith, subst, sym, refl, ap, ◌∙◌, inl, inr}
use Rattle.std.specs.Prelude.{slice_get, count_by, ◌==◌}
use Rattle.std.proofs.lemmas.Bool.{cases_Bool, cases_lt, and_parts, eqb-true}
use Rattle.std.proofs.lemmas.Option.{slice_get_within}
use Rattle.cc_base.specs.Lattices.{LatticeOf, OrderLaws}
use Rattle.cc_base.specs.IntegerDomains.{IntegersOf}
use Rattle.c_layout.specs.declared.leaf_lists.Class.{Class}
use Rattle.c_layout.specs.declared.leaf_lists.Class.TheVariants.{Char, Short, Int, Long, LongLong, Pointer}
use Rattle.c_layout.specs.declared.leaf_lists.Leaf.{Leaf}
use Rattle.c_layout.specs.declared.shapes.BaseInfo.{BaseInfo}
use Rattle.cfg.specs.declared.programs.Flow.{Flow}
use Rattle.value_domain.specs.Values.LabelSets.{all_labels}
use Rattle.value_domain.specs.Values.Values.{value_lattice}
use Rattle.value_domain.specs.declared.values.values.Value.{Value}
use Rattle.value_domain.specs.declared.values.row_cells.Cell.{Cell}
use Rattle.store_cells.specs.CellReads.{whole_range, as_read, byte_read}
use Rattle.store_cells.specs.ClassNumbers.{class_number, class_at}
use Rattle.store_cells.specs.RowPositions.{value_at}
use Rattle.store_cells.specs.ScalarTypes.{kind_of}
use Rattle.memory_model.specs.Memory.ScalarSizes.{class_bytes, same_class}
use Rattle.memory_model.specs.Memory.Bytes.{Tag, Byte}
use Rattle.memory_model.specs.Memory.Instances.{Memory, Instance, live, bytes_of, bytes_at, byte_at, life_at}
use Rattle.memory_model.specs.Memory.Tags.{tag_of, fits_tag, tag_at}
use Rattle.memory_model.specs.Effects.StructCopies.{fits_leaf}
use Rattle.memory_model.specs.Effects.Touches.{is_allocated, storage_of, storage_at}
use Rattle.store_sound.specs.Concretization.Matching.{Fits}
use Rattle.store_sound.specs.Concretization.Places.{OwnedByLeaf, OwnedByClass, IsLeafPlace, IsClassPlace}
use Rattle.store_sound.specs.Concretization.SoundMemory.{IsMemoryOf}
use Rattle.store_sound.specs.Concretization.ValueMeaning.{Naming}
use Rattle.store_sound.specs.Operations.Gives.{Gives}
use Rattle.store_sound.specs.Operations.Shapes.{IsShaped, SeesPadding, at_offset}
use Rattle.store_sound.proofs.operations.Classes.{same_class_is, class_small, class_number_back}
use Rattle.store_sound.proofs.operations.LoadSound.{instance_there}
use Rattle.store_sound.proofs.operations.Selected.{counted_place, uncounted_place}
use Rattle.store_sound.proofs.operations.TagPlaces.{is_tagged}
use Rattle.store_struct_leaves.specs.LeafCopies.{read_base}
use Rattle.store_struct_leaves.specs.declared.leaf_copies.LeafAccess.{LeafAccess}
use Rattle.struct_copies_sound.proofs.leaves.OwnPlaces.{OwnPlace, own_place}
use Rattle.struct_copies_sound.proofs.leaves.ReadCells.{IsSpot, spot_stray, spot_padding, own_leaf_gives, own_class_gives, other_leaf_gives, other_class_gives, padding_gives}
use Rattle.struct_copies_sound.proofs.leaves.Cells.{CellName, leaf_cell, class_cell, IsThere, position, class_of, signed_of, Place, Owns}

-- ---- a byte that fits a scalar of a class

-- a byte of a wider scalar has its tag, or none on the heap
pub wide_fits : (allocated : Bool) (class : Class) (k : ℕ) (b : Byte) → same_class class Char ≡ false → fits_leaf allocated (tag_of class k) b ≡ true → Fits class k b.tag × (allocated ≡ false → b.tag ≡ None → ⊥)
wide_fits allocated class k b wide h = by_tag b.tag (subst (λ z. (z || fits_tag allocated class k b.tag) ≡ true) wide h)
  where
    none_fits : (a z : Bool) → z ≡ false → (a || z) ≡ true → a ≡ false → ⊥
    none_fits true z e f g = cc
    none_fits false z e f g = cc

    by_tag : (t : Option Tag) → fits_tag allocated class k t ≡ true → Fits class k t × (allocated ≡ false → t ≡ None → ⊥)
    by_tag None f = (tt, λ e g. none_fits allocated (same_class class Char) wide f e)
    by_tag (Some t) f = let p = and_parts (same_class t.class class) (t.at == k) f in ((same_class_is t.class class p.0, eqb-true t.at k p.1), λ e (g : Some t ≡ None). cc)

wide_number : (d : Class) → same_class d Char ≡ false → (j : ℕ) × (j < 5) × (class_number d ≡ j + 1)
wide_number Char h = cc
wide_number Short h = (0, omega arith, refl)
wide_number Int h = (1, omega arith, refl)
wide_number Long h = (2, omega arith, refl)
wide_number LongLong h = (3, omega arith, refl)
wide_number Pointer h = (4, omega arith, refl)

module _ (flow : Flow) (naming : Naming) (memory : Memory) (sane : IsMemoryOf flow.model flow.bases.items naming memory) (padding : SeesPadding flow.model flow.bases.items) (e : ℕ) (base : BaseInfo) (at : slice_get flow.bases.items e ≡ Some base) (shape : IsShaped base) (j : ℕ) (named : naming j ≡ Some e) (alive : life_at memory j ≡ live) where
  -- ---- an instance of an object

  abbrev it : (x : Instance) × (slice_get memory j ≡ Some x)
  it = instance_there memory j alive

  pub object_tag : base.shape.heap ≡ false → (x : ℕ) (b : Byte) → byte_at memory j x ≡ Some b → (b.tag ≡ tag_at flow.model base.shape.cells x) × (x < base.size)
  unfolding byte_at
  object_tag heap x b here =
      let k = sane.instances j e base it.0 named at it.1 in
      let len : length (bytes_at memory j) ≡ base.size = ap (λ z. length (bytes_of z)) it.1 ∙ k.size heap in
      let within = slice_get_within (bytes_at memory j) x b here in
      (k.tags heap x b (sym (ap (λ z. slice_get (bytes_of z) x) it.1) ∙ here), omega (arith, len, within))

  pub allocated_is : is_allocated (storage_at memory j) ≡ base.shape.heap
  allocated_is =
      let k = sane.instances j e base it.0 named at it.1 in
      ap (λ z. is_allocated (storage_of z)) it.1 ∙ (ap is_allocated k.storage ∙ shape.kind)

  -- the cell of a wider class at an offset one of whose bytes fits
  pub wide_place : (class : Class) (x k : ℕ) (b : Byte) → same_class class Char ≡ false → byte_at memory j (x + k) ≡ Some b → fits_leaf (is_allocated (storage_at memory j)) (tag_of class k) b ≡ true → OwnPlace base class x
  wide_place class x k b wide here fits =
      let f = wide_fits (is_allocated (storage_at memory j)) class k b wide fits in
      own_place flow.model base shape class x k b.tag f.0 (λ heap. ((object_tag heap (x + k) b here).0, f.1 (allocated_is ∙ heap)))

  -- ---- reads

  module _ {I : Type 0} {l : LatticeOf I} (o : OrderLaws l) (n : IntegersOf I) {P : Value I → Type 0} (up : (x y : Value I) → (value_lattice l).leq x y ≡ true → P x → P y) (row : List (Cell I)) (access : LeafAccess) (x : ℕ) (spot : IsSpot base access.span x) (long : base.shape.heap ≡ true → length base.shape.cells < 2 ^ 64 - 1) (room : x + class_bytes flow.model access.class ≤ length (bytes_at memory j)) where
    abbrev Given : Type 0
    Given = Gives P (read_base l n flow.model base row access)

    -- the cell of the class there gives it
    abbrev pub OwnGives : Type 0
    OwnGives = (c : CellName) → IsThere flow.model base c → class_of flow.model base c ≡ access.class → Place flow.model base c (length (bytes_at memory j)) x → ((k : ℕ) → k < class_bytes flow.model access.class → Owns flow.model base c (x + k) k)
        → P (as_read n flow.model (value_at l n row (position flow.model base c)) access.class (signed_of flow.model base c) access.signed)

    from_place : OwnGives → OwnPlace base access.class x → Given
    from_place own (inl p) = own_leaf_gives o n up flow.model row access x base spot p
        (own (leaf_cell p.at p.leaf) p.among p.same p.place (λ k h. record { start = x; place = p.place; there = refl; small = subst (λ d. k < class_bytes flow.model d) (sym p.same) h }))
    from_place own (inr r) =
        let back : class_at (class_number access.class) ≡ access.class = class_number_back access.class in
        let none : IsLeafPlace base.shape.cells access.class x → ⊥ = λ p. uncounted_place base.shape.cells access.class x (shape.single r.0) r.1 p in
        own_class_gives o n up flow.model row access x base spot r.0 (spot_stray base access.span x spot (long r.0) access.class r.0 r.1)
        (own (class_cell (class_number access.class)) (r.0, class_small access.class) back
        (subst (λ z. IsClassPlace flow.model base.shape.cells z (length (bytes_at memory j)) x) (sym back) (record { fits = room; no_leaf = none }))
        (λ k h. subst (λ z. OwnedByClass flow.model base.shape.cells z (x + k) k) (sym back) (record { small = h; no_leaf = λ start f p. none (subst (IsLeafPlace base.shape.cells access.class) (let d : start ≡ x = omega (arith, f) in d) p) })))

    -- a scalar wider than a character
    pub wide_gives : OwnGives → (k : ℕ) (b : Byte) → same_class access.class Char ≡ false → byte_at memory j (x + k) ≡ Some b → fits_leaf (is_allocated (storage_at memory j)) (tag_of access.class k) b ≡ true → Given
    wide_gives own k b wide here fits = from_place own (wide_place access.class x k b wide here fits)

    module _ (b : Byte) (here : byte_at memory j x ≡ Some b) (char : same_class access.class Char ≡ true) (own : Fits Char 0 b.tag → OwnGives)
        (other : (c : CellName) → IsThere flow.model base c → same_class (class_of flow.model base c) Char ≡ false → (k : ℕ) → Owns flow.model base c x k → Fits (class_of flow.model base c) k b.tag → P (byte_read l n flow.model (value_at l n row (position flow.model base c)) (class_of flow.model base c) access.signed))
        (pad : P (whole_range l n (kind_of flow.model Char access.signed) all_labels true)) where
      class_is : access.class ≡ Char
      class_is = same_class_is access.class Char char

      own_char : Fits Char 0 b.tag → (base.shape.heap ≡ false → b.tag ≡ None → ⊥) → Given
      own_char fits some = from_place (own fits) (own_place flow.model base shape access.class x 0 b.tag (subst (λ z. Fits z 0 b.tag) (sym class_is) fits)
          (λ heap. (subst (λ z. b.tag ≡ tag_at flow.model base.shape.cells z) (let f : x ≡ x + 0 = omega arith in f) (object_tag heap x b here).0, some heap)))

      leaf_byte : (i k : ℕ) (leaf : Leaf) → slice_get base.shape.cells i ≡ Some leaf → OwnedByLeaf flow.model leaf x k → same_class leaf.class Char ≡ false → Fits leaf.class k b.tag → Given
      leaf_byte i k leaf f owns wide fits = other_leaf_gives o n up flow.model row access x base spot char i k leaf f owns wide (other (leaf_cell i leaf) f wide k owns fits)

      class_byte : (d : Class) (k : ℕ) → base.shape.heap ≡ true → OwnedByClass flow.model base.shape.cells d x k → same_class d Char ≡ false → Fits d k b.tag → Given
      class_byte d k heap owns wide fits =
          let m = wide_number d wide in
          let h : class_at (m.0 + 1) ≡ d = ap class_at (sym m.2) ∙ class_number_back d in
          let small = m.1 in
          other_class_gives o n up flow.model row access x base spot char heap m.0 small
          (other (class_cell (m.0 + 1)) (heap, omega (arith, small)) (subst (λ z. same_class z Char ≡ false) (sym h) wide) k (subst (λ z. OwnedByClass flow.model base.shape.cells z x k) (sym h) owns) (subst (λ z. Fits z k b.tag) (sym h) fits))

      heap_at : (count : ℕ) (d : Class) (k : ℕ) → count_by (at_offset d (x - k)) base.shape.cells ≡ count → base.shape.heap ≡ true → k < class_bytes flow.model d → same_class d Char ≡ false → Fits d k b.tag → k ≤ x → Given
      heap_at zero d k f heap small wide fits below = class_byte d k heap (record { small = small; no_leaf = λ start w p. uncounted_place base.shape.cells d (x - k) (shape.single heap) f (let y : start ≡ x - k = omega (arith, w) in subst (IsLeafPlace base.shape.cells d) y p) }) wide fits
      heap_at (suc r) d k f heap small wide fits below =
          let p = counted_place base.shape.cells d (x - k) r (shape.single heap) f in
          leaf_byte p.at k p.leaf p.among (record { start = x - k; place = p.place; there = omega (arith, below); small = subst (λ z. k < class_bytes flow.model z) (sym p.same) small }) (subst (λ z. same_class z Char ≡ false) (sym p.same) wide) (subst (λ z. Fits z k b.tag) (sym p.same) fits)

      heap_other : (d : Class) (k : ℕ) → base.shape.heap ≡ true → k < class_bytes flow.model d → same_class d Char ≡ false → Fits d k b.tag → Given
      heap_other d k heap small wide fits = elim (cases_lt x k) [
        | inl g ↦ class_byte d k heap (record { small = small; no_leaf = λ start h p. absurd (omega (arith, g, h)) }) wide fits
        | inr g ↦ heap_at (count_by (at_offset d (x - k)) base.shape.cells) d k refl heap small wide fits g
      ]

      char_tag : (t : Tag) → b.tag ≡ Some t → same_class t.class Char ≡ true → Fits Char 0 b.tag
      char_tag t f c =
          let h = same_class_is t.class Char c in
          let small = sane.tags j x b t here f in
          let one : class_bytes flow.model t.class ≡ 1 = ap (class_bytes flow.model) h in
          subst (Fits Char 0) (sym f) (h, omega (arith, small, one))

      by_tag : (heap : Bool) → base.shape.heap ≡ heap → (t : Option Tag) → b.tag ≡ t → Given
      by_tag true heap None f = own_char (subst (Fits Char 0) (sym f) tt) (λ h. let z : true ≡ false = sym heap ∙ h in absurd (cc))
      by_tag false heap None f =
          let r = object_tag heap x b here in
          padding_gives o n up flow.model row access x base spot char heap
          (spot_padding flow.model base access.span x spot (λ w from to. padding e base w x at heap from to r.1 (sym r.0 ∙ f))) pad
      by_tag heap is (Some t) f = elim (cases_Bool (same_class t.class Char)) [
        | inl c ↦ own_char (char_tag t f c) (λ h (g : b.tag ≡ None). let z : Some t ≡ None = sym f ∙ g in cc)
        | inr c ↦ by_heap heap is
      ]
        where
          by_heap : (a : Bool) → base.shape.heap ≡ a → Given
          by_heap true a = elim (cases_Bool (same_class t.class Char)) [
            | inl c ↦ own_char (char_tag t f c) (λ h (g : b.tag ≡ None). let z : Some t ≡ None = sym f ∙ g in cc)
            | inr c ↦ heap_other t.class t.at a (sane.tags j x b t here f) c (subst (Fits t.class t.at) (sym f) (refl, refl))
          ]
          by_heap false a =
              let g = (object_tag a x b here).0 in
              let r = is_tagged flow.model base.shape.cells x t (sym g ∙ f) in
              elim (cases_Bool (same_class t.class Char)) [
                | inl c ↦ own_char (char_tag t f c) (λ h (g : b.tag ≡ None). let z : Some t ≡ None = sym f ∙ g in cc)
                | inr c ↦ leaf_byte r.index t.at r.leaf r.among r.owned (subst (λ z. same_class z Char ≡ false) r.class c) (subst (Fits r.leaf.class t.at) (sym f) (r.class, refl))
              ]

      -- a character
      pub char_gives : Given
      char_gives = by_tag base.shape.heap refl b.tag refl

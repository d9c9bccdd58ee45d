-- What a cell of the target takes of the leaf that its byte is of.
use Rattle.std.proofs.Common.{◌≡◌, ℕ, zero, suc, ◌+◌, ◌-◌, ◌<◌, ◌≤◌, ◌^◌, Bool, true, false, Some, List, length, arith, subst, sym, refl, ap, ◌∙◌}
use Rattle.std.specs.Prelude.{slice_get, ℤ, count_by}
use Rattle.std.proofs.lemmas.Bool.{and_from, or_right, true≢false}
use Rattle.std.proofs.lemmas.Option.{same_Some, slice_get_within}
use Rattle.cc_base.specs.Lattices.{LatticeOf, OrderLaws}
use Rattle.cc_base.specs.IntegerDomains.{IntegersOf, BoundLaws, RangeLaws}
use Rattle.cc_base.specs.IntegerLaws.{SoundLaws}
use Rattle.c_layout.specs.declared.data_model.Model.{Model}
use Rattle.c_layout.specs.declared.leaf_lists.Class.{Class}
use Rattle.c_layout.specs.declared.leaf_lists.Class.TheVariants.{Char}
use Rattle.c_layout.specs.declared.leaf_lists.Leaf.{Leaf}
use Rattle.c_layout.specs.declared.shapes.BaseInfo.{BaseInfo}
use Rattle.cfg.specs.declared.programs.Flow.{Flow}
use Rattle.value_domain.specs.declared.values.values.Value as values
use Rattle.value_domain.specs.declared.values.row_cells.Cell.{Cell}
use Rattle.store_cells.specs.ByteWrites.{byte_written}
use Rattle.store_cells.specs.CellReads.{as_stored}
use Rattle.store_cells.specs.ClassNumbers.{class_number, is_pointer}
use Rattle.store_cells.specs.RowPositions.{leaf_position, class_position}
use Rattle.memory_model.specs.Memory.ScalarSizes.{class_bytes, same_class}
use Rattle.memory_model.specs.Memory.Bytes.{Content, indeterminate, number, part, Byte}
use Rattle.memory_model.specs.Memory.Instances.{Memory, bytes_at, byte_at}
use Rattle.memory_model.specs.Memory.Numbers.{Labelled, number_of}
use Rattle.memory_model.specs.Memory.Tags.{tag_of, tag_at}
use Rattle.memory_model.specs.Effects.StructCopies.{fits_leaf, may_be_copied}
use Rattle.memory_model.specs.Effects.Touches.{is_allocated, storage_at}
use Rattle.store_sound.specs.Concretization.Matching.{number_in, Holds}
use Rattle.store_sound.specs.Concretization.Places.{IsPlaceOf, OwnedByLeaf, IsLeafPlace}
use Rattle.store_sound.specs.Concretization.SoundMemory.{IsContentIn}
use Rattle.store_sound.specs.Concretization.ValueMeaning.{Naming, InGammaContent}
use Rattle.store_sound.specs.Operations.Gives.{Gives}
use Rattle.store_sound.specs.Operations.Shapes.{at_offset}
use Rattle.store_sound.proofs.operations.Classes.{class_above, is_same_class}
use Rattle.store_sound.proofs.operations.Selected.{counted_place}
use Rattle.store_sound.proofs.operations.Slices.{get_there}
use Rattle.store_sound.proofs.operations.StoreLeaves.{number_at}
use Rattle.store_sound.proofs.chars.ByteValues.{written_number, written_content}
use Rattle.store_sound.specs.Regions.RegionWrites.{InGammaBase}
use Rattle.store_struct_leaves.specs.CopyPlaces.{is_touched}
use Rattle.store_struct_leaves.specs.LeafCopies.{reaches_class, with_flag}
use Rattle.store_structs.specs.StructCopies.{leaf_access, read_source}
use Rattle.struct_copies_sound.specs.Cells.LeafWrites.{Fact, of_number, of_content, IsTold}
use Rattle.struct_copies_sound.proofs.leaves.Cells.{CellName, leaf_cell, class_cell, IsThere, position, class_of, signed_of, Owns}
use Rattle.struct_copies_sound.proofs.leaves.Copies.{Copied, Came, route, position_in, same_cell, replaces, spared, one_leaf, target_spot, few_cells}
use Rattle.struct_copies_sound.proofs.leaves.LeafReads.{Tells, reads_content, reads_number}
use Rattle.struct_copies_sound.proofs.leaves.ReadCells.{spot_reached, spot_touched, spot_stray}
use Rattle.struct_copies_sound.proofs.leaves.ReadValues.{Near, IsNoPart, AreBytes, content_stored, number_stored}
use Rattle.struct_copies_sound.proofs.leaves.Structs.{owned_at}
use Rattle.struct_copies_sound.proofs.batches.Known.{Told, Spares, behind, Makes, near_of, writes}

-- ---- names of cells

leaf_number : CellName → ℕ
leaf_number (leaf_cell j leaf) = j
leaf_number (class_cell d) = 0

is_leaf : CellName → Bool
is_leaf (leaf_cell j leaf) = true
is_leaf (class_cell d) = false

index_same : (i j : ℕ) (x y : Leaf) → leaf_cell i x ≡ leaf_cell j y → i ≡ j
unfolding leaf_number
index_same i j x y e = ap leaf_number e

no_class : (d j : ℕ) (y : Leaf) → class_cell d ≡ leaf_cell j y → ⊥
unfolding is_leaf
no_class d j y e = true≢false (sym (ap is_leaf e))

gives_more : {V : Type 0} {P Q : V → Type 0} (x : _) → ((v : V) → x ≡ Some v → P v → Q v) → Gives P x → Gives Q x
gives_more x f g = record { value = g.value; is = g.is; good = f g.value g.is g.good }

-- a byte whose cell of a wider class takes it as one of a character
flagged : {I : Type 0} (l : LatticeOf I) (n : IntegersOf I) (gamma : I → ℤ → Type 0) (naming : Naming) (memory : Memory) (m : Model) (class : Class) (signed : Bool) (v : values.Value I) (c : Content) → IsNoPart c
    → ((d : ℕ) (labels : _) → c ≡ number d labels → InGammaContent gamma naming memory (byte_written l n m class signed v.labels) class (number d labels)) → InGammaContent gamma naming memory v Char c
    → InGammaContent gamma naming memory (with_flag (byte_written l n m class signed v.labels) v.indeterminate) class c
flagged l n gamma naming memory m class signed v indeterminate none numbers h = or_right (byte_written l n m class signed v.labels).indeterminate v.indeterminate h
flagged l n gamma naming memory m class signed v (number d labels) none numbers h = numbers d labels refl
flagged l n gamma naming memory m class signed v (part p k) none numbers h = absurd none

no_part : (c : Content) → may_be_copied c (tag_of Char 0) ≡ true → IsNoPart c
no_part indeterminate h = tt
no_part (number n labels) h = tt
no_part (part p k) h = absurd (true≢false (sym h))

module _ {flow : Flow} {naming : Naming} {old new : Memory} (k : Copied flow naming old new) (few : length k.leaves ≤ 2 ^ 62) {I : Type 0} {l : LatticeOf I} {n : IntegersOf I} {gamma : I → ℤ → Type 0} (o : OrderLaws l) (q : BoundLaws l n gamma) (c : SoundLaws l n gamma) (r : RangeLaws l n)
    (row : List (Cell I)) (long : k.laid.behind ≤ length row) (stand : (b : ℕ) (base : BaseInfo) → slice_get flow.bases.items b ≡ Some base → InGammaBase l n gamma flow naming old b base row)
    (at : ℕ) (leaf : Leaf) (e : slice_get k.leaves at ≡ Some leaf) where
  abbrev base : BaseInfo
  base = k.target_side.base

  in_row : (x : CellName) → IsThere flow.model k.target_side.base x → position flow.model k.target_side.base x < length row
  in_row x there = let a = position_in k k.target_side.b k.target_side.base k.target_side.at x there in let b = a.1 in let d = k.laid.laid.close k.target_side.b k.target_side.base k.target_side.at in omega (arith, b, d, long)

  -- ---- the source's byte

  module _ (d j : ℕ) (own : OwnedByLeaf flow.model leaf d j) (y : Byte) (here : byte_at new k.i (k.offset + d) ≡ Some y) where
    inside : d < k.size
    inside = k.struct.inside at d j leaf e own

    pub came : Came flow.model k.leaves old k.i k.offset k.j k.at (k.offset + d) y
    came = k.came (k.offset + d) y (omega arith) (let a = inside in omega (arith, a)) here

    back : (k.offset + d) - k.offset ≡ d
    back = omega arith

    pub tag_is : tag_at flow.model k.leaves d ≡ tag_of leaf.class j
    tag_is = owned_at flow.model k.leaves k.size k.struct at d j leaf e own

    pub source_byte : byte_at old k.j (k.at + d) ≡ Some came.source
    source_byte = subst (λ z. byte_at old k.j (k.at + z) ≡ Some came.source) back came.from

    pub source_fits : fits_leaf (is_allocated (storage_at old k.j)) (tag_at flow.model k.leaves d) came.source ≡ true
    source_fits = subst (λ z. fits_leaf (is_allocated (storage_at old k.j)) (tag_at flow.model k.leaves z) came.source ≡ true) back came.seen

    pub source_may : may_be_copied came.source.content (tag_at flow.model k.leaves d) ≡ true
    source_may = subst (λ z. may_be_copied came.source.content (tag_at flow.model k.leaves z) ≡ true) back came.may

    pub reads_byte : (start : List (Cell I)) → Tells k o q c leaf start → Gives (λ v. InGammaContent gamma naming old v leaf.class y.content) (read_source l n (route k) leaf start)
    reads_byte start tells = subst (λ z. Gives (λ v. InGammaContent gamma naming old v leaf.class z) (read_source l n (route k) leaf start)) (sym came.content)
        (reads_content k o q c at leaf e start tells d j came.source own source_byte source_fits source_may)

  -- ---- a cell of the class of the leaf

  module _ (x : CellName) (there : IsThere flow.model k.target_side.base x) (same : class_of flow.model k.target_side.base x ≡ leaf.class) (d j : ℕ) (own : OwnedByLeaf flow.model leaf d j) (owns : Owns flow.model k.target_side.base x (k.offset + d) j) where
    -- no other leaf replaces it
    pub others_spare : (other : ℕ) (y : Leaf) → (other ≡ at → ⊥) → slice_get k.leaves other ≡ Some y → Spares k few o q c r row long stand y (position flow.model k.target_side.base x)
    others_spare other y ne f = spared k other k.target_side.b k.target_side.base y f k.target_side.at x there k.i (k.offset + d) j (record { named = k.target_side.named; alive = k.target_side.alive }) owns
        (λ is from owned. one_leaf k other at d j j y leaf f e ne (subst (λ z. OwnedByLeaf flow.model y z j) (let b : (k.offset + d) - k.offset ≡ d = omega arith in b) owned) own)

    -- the write brings what holds of the value as the cell stores it
    brings : (f : Fact) (v : values.Value I) (start : List (Cell I)) → read_source l n (route k) leaf start ≡ Some v → IsTold l n gamma f (as_stored n flow.model v leaf.class (signed_of flow.model k.target_side.base x)) → (s : List (Cell I)) → length s ≡ length row → Told k few o q c r row long stand f (position flow.model k.target_side.base x) (behind k few o q c r row long stand leaf v s)
    unfolding reaches_class
    brings f v start is good s size = by_cell x there same owns good
      where
        near : Near o q v
        near = near_of k few o q c r row long stand at leaf e start v is

        by_cell : (z : CellName) → IsThere flow.model k.target_side.base z → class_of flow.model k.target_side.base z ≡ leaf.class → Owns flow.model k.target_side.base z (k.offset + d) j → IsTold l n gamma f (as_stored n flow.model v leaf.class (signed_of flow.model k.target_side.base z)) → Told k few o q c r row long stand f (position flow.model k.target_side.base z) (behind k few o q c r row long stand leaf v s)
        by_cell (leaf_cell i y) h m w g =
            let a = w.there in
            let b = own.there in
            let there_too : w.start ≡ k.offset + own.start = omega (arith, a, b) in
            let place : IsPlaceOf y (k.offset + own.start) = subst (IsPlaceOf y) there_too w.place in
            let p : IsLeafPlace k.target_side.base.shape.cells leaf.class (k.offset + own.start) = record { at = i; leaf = y; among = h; same = m; place = place } in
            (writes k few o q c r row long stand at leaf e start v near f (leaf_position k.target_side.base i) (in_row (leaf_cell i y) h)).own k.target_side.b i k.target_side.base y k.target_side.at k.target_side.has h refl
            (λ b2 i2 base2 y2 rep. let s = same_cell k k.target_side.b k.target_side.base k.target_side.at (leaf_cell i y) h b2 i2 base2 y2 rep.at rep.among rep.here in (s.0, sym (index_same i i2 y y2 s.1)))
            (spot_reached flow.model k.target_side.base (leaf_access leaf k.to).span (k.offset + own.start) (target_spot k at own.start leaf e own.place) leaf.class p) g s size
        by_cell (class_cell z) h m w g =
            let class_is : class_number leaf.class ≡ z = ap class_number (sym m) ∙ number_at z h.1 in
            let b = own.there in
            let apart : k.offset + d ≡ (k.offset + own.start) + j = omega (arith, b) in
            (writes k few o q c r row long stand at leaf e start v near f (class_position k.target_side.base z) (in_row (class_cell z) h)).class
            (λ b2 i2 base2 y2 rep. no_class z i2 y2 (same_cell k k.target_side.b k.target_side.base k.target_side.at (class_cell z) h b2 i2 base2 y2 rep.at rep.among rep.here).1)
            k.target_side.b k.target_side.base k.target_side.at k.target_side.has (ap (class_position k.target_side.base) class_is)
            (reached h.0 (stray (count_by (at_offset leaf.class (k.offset + own.start)) k.target_side.base.shape.cells) refl h.0 (λ p. w.no_leaf (k.offset + own.start) apart (subst (λ y. IsLeafPlace k.target_side.base.shape.cells y (k.offset + own.start)) (sym m) p))))
            g s size
          where
            stray : (count : ℕ) → count_by (at_offset leaf.class (k.offset + own.start)) k.target_side.base.shape.cells ≡ count → k.target_side.base.shape.heap ≡ true → (IsLeafPlace k.target_side.base.shape.cells leaf.class (k.offset + own.start) → ⊥) → count_by (at_offset leaf.class (k.offset + own.start)) k.target_side.base.shape.cells ≡ 0
            stray zero f heap none = f
            stray (suc t) f heap none = absurd (none (counted_place k.target_side.base.shape.cells leaf.class (k.offset + own.start) t ((k.laid.shaped.each k.target_side.b k.target_side.base k.target_side.at).single heap) f))

            reached : k.target_side.base.shape.heap ≡ true → count_by (at_offset leaf.class (k.offset + own.start)) k.target_side.base.shape.cells ≡ 0 → reaches_class k.target_side.base (leaf_access leaf k.to) ≡ true
            reached heap none = and_from _ _ heap (spot_stray k.target_side.base (leaf_access leaf k.to).span (k.offset + own.start) (target_spot k at own.start leaf e own.place) (few_cells k k.target_side.b k.target_side.base k.target_side.at heap) leaf.class heap none)

    -- a byte
    pub own_content : (y : Byte) → byte_at new k.i (k.offset + d) ≡ Some y → Makes k few o q c r row long stand leaf (position flow.model k.target_side.base x) (of_content naming old (class_of flow.model k.target_side.base x) y.content)
    own_content y here start tells = gives_more (read_source l n (route k) leaf start)
        (λ v is g. brings (of_content naming old (class_of flow.model k.target_side.base x) y.content) v start is
        (content_stored gamma naming old n flow.model v (class_of flow.model k.target_side.base x) leaf.class (signed_of flow.model k.target_side.base x) y.content (subst (λ z. InGammaContent gamma naming old v z y.content) (sym same) g)))
        (reads_byte d j own y here start tells)

  -- the number at a place
  module _ (x : CellName) (there : IsThere flow.model k.target_side.base x) (same : class_of flow.model k.target_side.base x ≡ leaf.class) (st : ℕ) (place : IsPlaceOf leaf st) (owns : Owns flow.model k.target_side.base x (k.offset + st) 0) (ns : List Labelled) (pointer : is_pointer (class_of flow.model k.target_side.base x) ≡ false) (held : Holds flow.model new k.i (k.offset + st) (class_of flow.model k.target_side.base x) ns) where
    size_is : length ns ≡ class_bytes flow.model leaf.class
    size_is = held.size ∙ ap (class_bytes flow.model) same

    own_at : (m : ℕ) → m < class_bytes flow.model leaf.class → OwnedByLeaf flow.model leaf (st + m) m
    own_at m small = record { start = st; place = place; there = refl; small = small }

    new_byte : (m : ℕ) (z : Labelled) → slice_get ns m ≡ Some z → (y : Byte) × (byte_at new k.i (k.offset + (st + m)) ≡ Some y) × (y.content ≡ number_in z)
    new_byte m z f =
        let w = held.each m z (slice_get_within ns m z f) f in
        let a : (k.offset + st) + m ≡ k.offset + (st + m) = omega arith in
        (record { content = number_in z; tag = w.tag }, subst (λ p. byte_at new k.i p ≡ Some (record { content = number_in z; tag = w.tag })) a w.here, refl)

    bytes : (m : ℕ) (z : Labelled) → slice_get ns m ≡ Some z → (b : Byte) × (byte_at old k.j ((k.at + st) + m) ≡ Some b) × (b.content ≡ number_in z)
    bytes m z f =
        let y = new_byte m z f in
        let small = slice_get_within ns m z f in
        let long_is = size_is in
        let own = own_at m (omega (arith, small, long_is)) in
        let a : k.at + (st + m) ≡ (k.at + st) + m = omega arith in
        let w = came (st + m) m own y.0 y.1 in
        (w.source, subst (λ p. byte_at old k.j p ≡ Some w.source) a (source_byte (st + m) m own y.0 y.1), sym w.content ∙ y.2)

    seen : (m : ℕ) (b : Byte) → m < class_bytes flow.model leaf.class → byte_at old k.j ((k.at + st) + m) ≡ Some b → fits_leaf (is_allocated (storage_at old k.j)) (tag_of leaf.class m) b ≡ true
    unfolding byte_at
    seen m b small here =
        let own = own_at m small in
        let in_struct = inside_of own in
        let len = k.region.lengths k.i in
        let fits = k.target_side.fits in
        let y = get_there (bytes_at new k.i) (k.offset + (st + m)) (omega (arith, in_struct, len, fits)) in
        let w = came (st + m) m own y.0 y.1 in
        let a : k.at + (st + m) ≡ (k.at + st) + m = omega arith in
        let is : w.source ≡ b = same_Some w.source b (sym (subst (λ p. byte_at old k.j p ≡ Some w.source) a (source_byte (st + m) m own y.0 y.1)) ∙ here) in
        subst (λ z. fits_leaf (is_allocated (storage_at old k.j)) (tag_of leaf.class m) z ≡ true) is (subst (λ z. fits_leaf (is_allocated (storage_at old k.j)) z w.source ≡ true) (tag_is (st + m) m own y.0 y.1) (source_fits (st + m) m own y.0 y.1))
      where
        inside_of : OwnedByLeaf flow.model leaf (st + m) m → st + m < k.size
        inside_of own = k.struct.inside at (st + m) m leaf e own

    are_bytes : AreBytes ns
    are_bytes m z f =
        let b = bytes m z f in
        let g : IsContentIn old b.0.content b.0.tag = k.sane.bytes k.j ((k.at + st) + m) b.0 b.1 in
        subst (λ w. IsContentIn old w b.0.tag) b.2 g

    pub own_number : Makes k few o q c r row long stand leaf (position flow.model k.target_side.base x) (of_number (number_of (signed_of flow.model k.target_side.base x) ns))
    own_number start tells = gives_more (read_source l n (route k) leaf start)
        (λ v is g. brings x there same st 0 (record { start = st; place = place; there = omega arith; small = class_above flow.model leaf.class }) owns (of_number (number_of (signed_of flow.model k.target_side.base x) ns)) v start is
        (number_stored c flow.model leaf.class ns size_is are_bytes leaf.signed (signed_of flow.model k.target_side.base x) v (sym (ap is_pointer same) ∙ pointer) g))
        (reads_number k o q c at leaf e start tells st place ns size_is (sym (ap is_pointer same) ∙ pointer) bytes seen)

  -- ---- a leaf of another class that takes a character

  module _ (char : leaf.class ≡ Char) (i : ℕ) (own : Leaf) (there : slice_get k.target_side.base.shape.cells i ≡ Some own) (wide : same_class own.class Char ≡ false) (d m : ℕ) (byte : OwnedByLeaf flow.model leaf d 0) (owns : OwnedByLeaf flow.model own (k.offset + d) m) (y : Byte) (here : byte_at new k.i (k.offset + d) ≡ Some y) where
    char_is : same_class leaf.class Char ≡ true
    char_is = is_same_class leaf.class Char char

    pub wide_spares : (other : ℕ) (z : Leaf) → slice_get k.leaves other ≡ Some z → (other ≡ at → ⊥) → Spares k few o q c r row long stand z (leaf_position k.target_side.base i)
    wide_spares other z f ne = spared k other k.target_side.b k.target_side.base z f k.target_side.at (leaf_cell i own) there k.i (k.offset + d) m (record { named = k.target_side.named; alive = k.target_side.alive }) owns
        (λ is from owned. one_leaf k other at d m 0 z leaf f e ne (subst (λ w. OwnedByLeaf flow.model z w m) (let b : (k.offset + d) - k.offset ≡ d = omega arith in b) owned) byte)

    -- nor does the character itself
    self_spares : Spares k few o q c r row long stand leaf (leaf_position k.target_side.base i)
    self_spares b2 i2 base2 y2 rep =
        let s = same_cell k k.target_side.b k.target_side.base k.target_side.at (leaf_cell i own) there b2 i2 base2 y2 rep.at rep.among rep.here in
        let p = replaces k at (leaf_position k.target_side.base i) b2 i2 base2 leaf y2 e rep in
        let class : own.class ≡ y2.class = ap (class_of flow.model k.target_side.base) s.1 in
        true≢false (sym (is_same_class own.class Char (class ∙ (p.class ∙ char))) ∙ wide)

    touched : is_touched flow.model own (leaf_access leaf k.to).span ≡ true
    touched =
        let b = byte.there in
        let a : k.offset + d ≡ k.offset + byte.start = omega (arith, b) in
        spot_touched flow.model k.target_side.base (leaf_access leaf k.to).span (k.offset + byte.start) (target_spot k at byte.start leaf e byte.place) i m own there (subst (λ z. OwnedByLeaf flow.model own z m) a owns) wide

    takes : (f : Fact) → ((v : values.Value I) → InGammaContent gamma naming old v leaf.class y.content → IsTold l n gamma f (with_flag (byte_written l n flow.model own.class own.signed v.labels) v.indeterminate)) → Makes k few o q c r row long stand leaf (leaf_position k.target_side.base i) f
    takes f good start tells = gives_more (read_source l n (route k) leaf start)
        (λ v is g s size. (writes k few o q c r row long stand at leaf e start v (near_of k few o q c r row long stand at leaf e start v is) f (leaf_position k.target_side.base i) (in_row (leaf_cell i own) there)).other self_spares char_is k.target_side.b i k.target_side.base own k.target_side.at k.target_side.has there refl touched (good v g) s size)
        (reads_byte d 0 byte y here start tells)

    pub takes_content : Makes k few o q c r row long stand leaf (leaf_position k.target_side.base i) (of_content naming old own.class y.content)
    takes_content = takes (of_content naming old own.class y.content) (λ v g.
        flagged l n gamma naming old flow.model own.class own.signed v y.content
        (no_part y.content (subst (λ z. may_be_copied y.content (tag_of z 0) ≡ true) char (subst (λ z. may_be_copied z (tag_of leaf.class 0) ≡ true) (sym (came d 0 byte y here).content) (subst (λ z. may_be_copied (came d 0 byte y here).source.content z ≡ true) (tag_is d 0 byte y here) (source_may d 0 byte y here)))))
        (λ a labels z. written_content o q flow.model own.class own.signed v.labels naming old a labels (subst (InGammaContent gamma naming old v leaf.class) z g).0)
        (subst (λ z. InGammaContent gamma naming old v z y.content) char g))

    pub takes_number : (ns : List Labelled) → is_pointer own.class ≡ false → length ns ≡ class_bytes flow.model own.class → AreBytes ns → Makes k few o q c r row long stand leaf (leaf_position k.target_side.base i) (of_number (number_of own.signed ns))
    takes_number ns pointer size bytes = takes (of_number (number_of own.signed ns)) (λ v g. written_number o q flow.model own.class own.signed v.labels ns pointer size bytes)

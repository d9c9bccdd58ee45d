-- Each leaf of a copied struct has a place in the target.
use Rattle.std.proofs.Common.{◌≡◌, ℕ, zero, suc, ◌+◌, ◌-◌, ◌<◌, Bool, true, false, not, Option, Some, None, arith, subst, sym, refl, ap, ◌∙◌, inl, inr}
use Rattle.std.specs.Prelude.{slice_get, count_by, ◌==◌}
use Rattle.std.proofs.lemmas.Bool.{cases_Bool, and_from, or_left, or_right, ne_eqb}
use Rattle.c_layout.specs.declared.leaf_lists.Class.TheVariants.{Char}
use Rattle.c_layout.specs.declared.leaf_lists.Leaf.{Leaf}
use Rattle.cfg.specs.declared.programs.Flow.{Flow}
use Rattle.store_struct_leaves.specs.CopyPlaces.{is_reached, reached_count}
use Rattle.store_struct_leaves.specs.LeafCopies.{span_meets_padding, reaches_class, is_touched_or, any_touched, has_own_place, has_other_place, has_place, has_place_or, any_place}
use Rattle.store_structs.specs.StructCopies.{leaf_access}
use Rattle.memory_model.specs.Memory.ScalarSizes.{class_bytes, same_class}
use Rattle.memory_model.specs.Memory.Bytes.{Tag, Byte}
use Rattle.memory_model.specs.Memory.Instances.{Memory, bytes_at, byte_at}
use Rattle.memory_model.specs.Memory.Tags.{tag_of, tag_at}
use Rattle.memory_model.specs.Effects.StructCopies.{fits_leaf}
use Rattle.memory_model.specs.Effects.Touches.{is_allocated, storage_at}
use Rattle.store_sound.specs.Concretization.Matching.{Fits}
use Rattle.store_sound.specs.Concretization.Places.{IsPlaceOf, OwnedByLeaf}
use Rattle.store_sound.specs.Concretization.ValueMeaning.{Naming}
use Rattle.store_sound.specs.Operations.Shapes.{IsShaped, at_offset}
use Rattle.store_sound.proofs.operations.Classes.{count_none, class_above, same_class_is}
use Rattle.store_sound.proofs.operations.Selected.{counted_place}
use Rattle.store_sound.proofs.operations.Slices.{get_there}
use Rattle.store_sound.proofs.operations.TagPlaces.{is_tagged}
use Rattle.store_sound.proofs.operations.Walks.{walk_meets}
use Rattle.struct_copies_sound.proofs.leaves.Copies.{Copied, IsSide, target_spot, few_cells}
use Rattle.struct_copies_sound.proofs.leaves.OwnPlaces.{OwnPlace, own_place}
use Rattle.struct_copies_sound.proofs.leaves.ReadCells.{spot_reached, spot_touched, spot_stray, spot_padding}
use Rattle.struct_copies_sound.proofs.leaves.SourceReads.{wide_fits, object_tag, allocated_is}
use Rattle.struct_copies_sound.proofs.leaves.Structs.{owned_at}

zero_not : (k : ℕ) → (k ≡ 0 → ⊥) → not (k == 0) ≡ true
zero_not zero h = absurd (h refl)
zero_not (suc k) h = ap not (ne_eqb (suc k) 0 h)

module _ {flow : Flow} {naming : Naming} {old new : Memory} (k : Copied flow naming old new) (number : ℕ) (leaf : Leaf) (e : slice_get k.leaves number ≡ Some leaf) where
  abbrev t : IsSide flow naming old k.target k.to k.i k.offset k.size
  t = k.target_side

  shape : IsShaped k.target_side.base
  shape = k.laid.shaped.each k.target_side.b k.target_side.base k.target_side.at

  first : IsPlaceOf leaf leaf.offset
  first = record { turn = 0; few = (k.struct.plain number leaf e).some; there = omega arith }

  owns : OwnedByLeaf flow.model leaf leaf.offset 0
  owns = record { start = leaf.offset; place = first; there = omega arith; small = class_above flow.model leaf.class }

  in_struct : leaf.offset < k.size
  in_struct = k.struct.inside number leaf.offset 0 leaf e owns

  own_place_there : OwnPlace k.target_side.base leaf.class (k.offset + leaf.offset) → has_own_place k.target_side.base (leaf_access leaf k.to) ≡ true
  unfolding has_own_place reached_count reaches_class
  own_place_there (inl p) = or_left _ _ (zero_not _ (λ z. count_none (λ x. is_reached x leaf.class (leaf_access leaf k.to).span) k.target_side.base.shape.cells p.at p.leaf p.among
      (spot_reached flow.model k.target_side.base (leaf_access leaf k.to).span (k.offset + leaf.offset) (target_spot k number leaf.offset leaf e first) leaf.class p) z))
  own_place_there (inr r) = or_right _ _ (and_from _ _ r.0 (spot_stray k.target_side.base (leaf_access leaf k.to).span (k.offset + leaf.offset) (target_spot k number leaf.offset leaf e first) (few_cells k k.target_side.b k.target_side.base k.target_side.at r.0) leaf.class r.0 r.1))

  abbrev HasPlace : Type 0
  HasPlace = has_place flow.model k.target_side.base (leaf_access leaf k.to) ≡ true

  from_own : OwnPlace k.target_side.base leaf.class (k.offset + leaf.offset) → HasPlace
  unfolding has_place
  from_own p = or_left _ _ (own_place_there p)

  from_other : same_class leaf.class Char ≡ true → has_other_place flow.model k.target_side.base (leaf_access leaf k.to).span ≡ true → HasPlace
  unfolding has_place
  from_other char h = or_right _ _ (and_from _ _ char h)

  touched_there : (j m : ℕ) (own : Leaf) → slice_get k.target_side.base.shape.cells j ≡ Some own → OwnedByLeaf flow.model own (k.offset + leaf.offset) m → same_class own.class Char ≡ false → has_other_place flow.model k.target_side.base (leaf_access leaf k.to).span ≡ true
  unfolding has_other_place any_touched
  touched_there j m own f p wide = or_right _ _ (or_left _ _ (walk_meets (λ s. s ≡ true) (is_touched_or flow.model (leaf_access leaf k.to).span) (λ x at s h. or_left s _ h) 0 k.target_side.base.shape.cells false j j own f (omega arith)
      (λ s. or_right s _ (spot_touched flow.model k.target_side.base (leaf_access leaf k.to).span (k.offset + leaf.offset) (target_spot k number leaf.offset leaf e first) j m own f p wide))))

  padding_there : span_meets_padding flow.model k.target_side.base (leaf_access leaf k.to).span ≡ true → has_other_place flow.model k.target_side.base (leaf_access leaf k.to).span ≡ true
  unfolding has_other_place
  padding_there h = or_right _ _ (or_right _ _ h)

  -- a byte of the region in the new memory
  new_there : (y : Byte) × (byte_at new k.i (k.offset + leaf.offset) ≡ Some y)
  unfolding byte_at
  new_there = let a = in_struct in let fits = k.target_side.fits in let len = k.region.lengths k.i in get_there (bytes_at new k.i) (k.offset + leaf.offset) (omega (arith, a, fits, len))

  heap_place : (count : ℕ) → count_by (at_offset leaf.class (k.offset + leaf.offset)) k.target_side.base.shape.cells ≡ count → k.target_side.base.shape.heap ≡ true → OwnPlace k.target_side.base leaf.class (k.offset + leaf.offset)
  heap_place zero f heap = inr (heap, f)
  heap_place (suc r) f heap = inl (counted_place k.target_side.base.shape.cells leaf.class (k.offset + leaf.offset) r (shape.single heap) f)

  object_place : k.target_side.base.shape.heap ≡ false → HasPlace
  object_place heap =
      let y = new_there in
      let a = in_struct in
      let c = k.came (k.offset + leaf.offset) y.0 (omega arith) (omega (arith, a)) y.1 in
      let back : (k.offset + leaf.offset) - k.offset ≡ leaf.offset = omega arith in
      let tag : tag_at flow.model k.leaves ((k.offset + leaf.offset) - k.offset) ≡ tag_of leaf.class 0 = ap (tag_at flow.model k.leaves) back ∙ owned_at flow.model k.leaves k.size k.struct number leaf.offset 0 leaf e owns in
      let plain : is_allocated (storage_at old k.i) ≡ false = allocated_is flow naming old k.sane k.padding k.target_side.b k.target_side.base k.target_side.at shape k.i k.target_side.named k.target_side.alive ∙ heap in
      let fits : fits_leaf false (tag_of leaf.class 0) c.was ≡ true = subst (λ z. fits_leaf false z c.was ≡ true) tag (c.seen_there plain) in
      let own = object_tag flow naming old k.sane k.padding k.target_side.b k.target_side.base k.target_side.at shape k.i k.target_side.named k.target_side.alive heap (k.offset + leaf.offset) c.was c.there in
      by_class c.was fits own.0 own.1
    where
      none : (k.offset + leaf.offset) + 0 ≡ k.offset + leaf.offset
      none = omega arith

      of_tag : (t : Option Tag) → Fits leaf.class 0 t → (t ≡ None → ⊥) → (b : Byte) → b.tag ≡ t → b.tag ≡ tag_at flow.model k.target_side.base.shape.cells (k.offset + leaf.offset) → HasPlace
      of_tag t f some b is own = from_own (own_place flow.model k.target_side.base shape leaf.class (k.offset + leaf.offset) 0 b.tag (subst (Fits leaf.class 0) (sym is) f)
          (λ h. (own ∙ ap (tag_at flow.model k.target_side.base.shape.cells) (sym none), λ z. some (sym is ∙ z))))

      by_char : (b : Byte) → same_class leaf.class Char ≡ true → b.tag ≡ tag_at flow.model k.target_side.base.shape.cells (k.offset + leaf.offset) → k.offset + leaf.offset < k.target_side.base.size → (t : Option Tag) → b.tag ≡ t → HasPlace
      by_char b char own inside None f = from_other char (padding_there (spot_padding flow.model k.target_side.base (leaf_access leaf k.to).span (k.offset + leaf.offset) (target_spot k number leaf.offset leaf e first)
          (λ w from to. k.padding k.target_side.b k.target_side.base w (k.offset + leaf.offset) k.target_side.at heap from to inside (sym own ∙ f))))
      by_char b char own inside (Some t) f =
          let r = is_tagged flow.model k.target_side.base.shape.cells (k.offset + leaf.offset) t (sym own ∙ f) in
          elim (cases_Bool (same_class t.class Char)) [
            | inr wide ↦ from_other char (touched_there r.index t.at r.leaf r.among r.owned (subst (λ z. same_class z Char ≡ false) r.class wide))
            | inl c ↦ (let h = same_class_is t.class Char c in
                let small = r.owned.small in
                let one : class_bytes flow.model r.leaf.class ≡ 1 = ap (class_bytes flow.model) (sym r.class ∙ h) in
                of_tag (Some t) (h ∙ sym (same_class_is leaf.class Char char), omega (arith, small, one)) (λ (z : Some t ≡ None). cc) b f own)
          ]

      by_class : (b : Byte) → fits_leaf false (tag_of leaf.class 0) b ≡ true → b.tag ≡ tag_at flow.model k.target_side.base.shape.cells (k.offset + leaf.offset) → k.offset + leaf.offset < k.target_side.base.size → HasPlace
      by_class b fits own inside = elim (cases_Bool (same_class leaf.class Char)) [
        | inl char ↦ by_char b char own inside b.tag refl
        | inr wide ↦ (let f = wide_fits false leaf.class 0 b wide fits in of_tag b.tag f.0 (f.1 refl) b refl own)
      ]

  in_base : (heap : Bool) → k.target_side.base.shape.heap ≡ heap → HasPlace
  in_base true heap = from_own (heap_place (count_by (at_offset leaf.class (k.offset + leaf.offset)) k.target_side.base.shape.cells) refl heap)
  in_base false heap = object_place heap

  pub place_there : any_place flow.model flow.bases.items k.target (leaf_access leaf k.to) ≡ true
  unfolding any_place
  place_there = walk_meets (λ s. s ≡ true) (has_place_or flow.model k.target (leaf_access leaf k.to)) (λ x at s h. or_left s _ h) 0 flow.bases.items false k.target_side.b k.target_side.b k.target_side.base k.target_side.at (omega arith)
      (λ s. or_right s _ (and_from _ _ k.target_side.has (in_base k.target_side.base.shape.heap refl)))

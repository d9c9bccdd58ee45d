-- The cell of a class at an offset of a base: that of a leaf, or the class cell of a heap base.
use Rattle.std.proofs.Common.{◌≡◌, ℕ, zero, suc, ◌+◌, Bool, true, false, Option, Some, None, arith, subst, sym, refl, ◌∙◌, inl, inr, ◌⊎◌}
use Rattle.std.specs.Prelude.{count_by}
use Rattle.c_layout.specs.declared.data_model.Model.{Model}
use Rattle.c_layout.specs.declared.leaf_lists.Class.{Class}
use Rattle.c_layout.specs.declared.shapes.BaseInfo.{BaseInfo}
use Rattle.memory_model.specs.Memory.Bytes.{Tag}
use Rattle.memory_model.specs.Memory.Tags.{tag_of, tag_at}
use Rattle.store_sound.specs.Concretization.Matching.{Fits}
use Rattle.store_sound.specs.Concretization.Places.{IsPlaceOf, IsLeafPlace}
use Rattle.store_sound.specs.Operations.Shapes.{IsShaped, at_offset}
use Rattle.store_sound.proofs.operations.Selected.{counted_place}
use Rattle.store_sound.proofs.operations.TagPlaces.{is_tagged}

-- a leaf of the class stands there, or none does and the base is one of the heap
abbrev pub OwnPlace : BaseInfo → Class → ℕ → Type 0
OwnPlace base class x = IsLeafPlace base.shape.cells class x ⊎ ((base.shape.heap ≡ true) × (count_by (at_offset class x) base.shape.cells ≡ 0))

module _ (m : Model) (base : BaseInfo) (shape : IsShaped base) (class : Class) (x k : ℕ) where
  at_leaf : tag_at m base.shape.cells (x + k) ≡ tag_of class k → IsLeafPlace base.shape.cells class x
  at_leaf h =
      let r = is_tagged m base.shape.cells (x + k) (record { class = class; at = k }) h in
      let there = r.owned.there in
      let e : r.owned.start ≡ x = omega (arith, there) in
      record { leaf = r.leaf; at = r.index; among = r.among; same = sym r.class; place = subst (IsPlaceOf r.leaf) e r.owned.place }

  by_count : (count : ℕ) → count_by (at_offset class x) base.shape.cells ≡ count → base.shape.heap ≡ true → OwnPlace base class x
  by_count zero e heap = inr (heap, e)
  by_count (suc r) e heap = inl (counted_place base.shape.cells class x r (shape.single heap) e)

  -- a byte that is seen as one of the class, and in an object has its leaf's tag
  pub own_place : (tag : Option Tag) → Fits class k tag → (base.shape.heap ≡ false → (tag ≡ tag_at m base.shape.cells (x + k)) × (tag ≡ None → ⊥)) → OwnPlace base class x
  own_place tag fits object = by_heap base.shape.heap refl
    where
      of_tag : (t : Option Tag) → Fits class k t → (t ≡ None → ⊥) → t ≡ tag_of class k
      of_tag None f some = absurd (some refl)
      of_tag (Some t) f some = λ i. Some (record { class = f.0 i; at = f.1 i })

      by_heap : (heap : Bool) → base.shape.heap ≡ heap → OwnPlace base class x
      by_heap true heap = by_count (count_by (at_offset class x) base.shape.cells) refl heap
      by_heap false heap = let r = object heap in inl (at_leaf (sym r.0 ∙ of_tag tag fits r.1))

-- The bases of a well-formed program have the shapes that theorems on the store ask for.
use Rattle.std.proofs.Common.{Option, ◌^◌, ◌≡◌, ℕ, zero, suc, ◌+◌, ◌-◌, ◌≤◌, Bool, true, false, not, ◌&&◌, Some, None, List, [], ◌∷◌, arith, subst, sym, refl, ◌∙◌, inl, inr}
use Rattle.std.specs.Prelude.{slice_get, ◌==◌, nat_le, is_none, count_by}
use Rattle.std.specs.List.{list_all}
use Rattle.std.proofs.lemmas.Bool.{cases_Bool, and_parts, eqb-true, leb-true, not-true, true≢false}
use Rattle.c_layout.specs.declared.data_model.Model.{Model}
use Rattle.c_layout.specs.declared.leaf_lists.Class.{Class}
use Rattle.c_layout.specs.declared.leaf_lists.Leaf.{Leaf}
use Rattle.c_layout.specs.declared.shapes.BaseInfo.{BaseInfo}
use Rattle.c_layout.specs.declared.shapes.BaseKind.{BaseKind}
use Rattle.c_layout.specs.declared.shapes.BaseKind.TheVariants.{Static, Automatic, Literal, Newest, Older}
use Rattle.c_layout.specs.declared.shapes.ZeroPart.{ZeroPart}
use Rattle.c_layout.specs.Models.{is_model}
use Rattle.cfg.specs.ModelKinds as program
use Rattle.cfg.specs.BaseShapes.{is_extent, ends_by, are_leaves, are_parts, lie_over, is_whole_part, are_whole, is_heap, is_single, is_heap_base, is_declared_base, is_shaped}
use Rattle.cfg.specs.ApartLeaves.{HasByte}
use Rattle.memory_model.specs.Effects.Touches.{is_allocated}
use Rattle.store_sound.specs.Concretization.SoundMemory.{storage_for}
use Rattle.store_sound.specs.Operations.Shapes.{at_offset, IsShaped, CountsOnce, HasTexts}
use Rattle.store_sound.proofs.operations.Classes.{class_above}
use Rattle.store_sound.proofs.programs.Sizes.{same_bytes}
use Rattle.store_sound.proofs.programs.Leaves.{one_owner}
use Rattle.store_sound.proofs.programs.Counts.{at_most_one}
use Rattle.store_sound.proofs.programs.CountedBytes.{each_even, counted_once}
use Rattle.store_sound.proofs.programs.PartTexts.{each_text}

pub all_at : {X : Type 0} (p : X → Bool) (xs : List X) (j : ℕ) (x : X) → list_all p xs ≡ true → slice_get xs j ≡ Some x → p x ≡ true
all_at p [] j x h e = cc
all_at p (y ∷ ys) zero x h e = let d : y ≡ x = cc in subst (λ z. p z ≡ true) d (and_parts (p y) (list_all p ys) h).0
all_at p (y ∷ ys) (suc j) x h e = all_at p ys j x (and_parts (p y) (list_all p ys) h).1 e

-- what ends by a limit lies below it
pub ends_inside : (at size limit : ℕ) → ends_by at size limit ≡ true → at + size ≤ limit
ends_inside at size limit h =
    let a = and_parts (nat_le at limit) (nat_le size (limit - at)) h in
    let b = leb-true at limit a.0 in
    let c = leb-true size (limit - at) a.1 in
    omega (arith, b, c)

same_kind : (kind : BaseKind) → is_allocated (storage_for kind) ≡ is_heap kind
same_kind Static = refl
same_kind Automatic = refl
same_kind Literal = refl
same_kind Newest = refl
same_kind Older = refl

none_is : (o : Option ℕ) → is_none o ≡ true → o ≡ None
none_is None h = refl
none_is (Some n) h = absurd (true≢false (sym h))

whole_at : (ps : List ZeroPart) (j : ℕ) (p : ZeroPart) → are_whole ps ≡ true → slice_get ps j ≡ Some p → is_whole_part p ≡ true
whole_at [] j p h e = cc
whole_at (q ∷ []) zero p h e = let d : q ≡ p = cc in subst (λ z. is_whole_part z ≡ true) d h
whole_at (q ∷ []) (suc j) p h e = cc
whole_at (q ∷ (r ∷ ps)) j p h e = absurd (true≢false (sym h))

module _ (m : Model) (model : is_model m ≡ true) where
  -- two leaves of a class at one offset share a byte
  at_one_place : (room : ℕ) (leaves : List Leaf) → are_leaves m room leaves ≡ true → (class : Class) (x : ℕ) → count_by (at_offset class x) leaves ≤ 1
  at_one_place room leaves h class x = at_most_one (at_offset class x) leaves (λ i k a b e f u v. one_owner m room leaves h i k a b e f x (first_byte a i e u) (first_byte b k f v))
    where
      first_byte : (leaf : Leaf) (j : ℕ) → slice_get leaves j ≡ Some leaf → at_offset class x leaf ≡ true → HasByte m leaf x
      first_byte leaf j e u =
          let at = eqb-true leaf.offset x (and_parts (program.same_class leaf.class class) (leaf.offset == x) u).1 in
          let some = (each_even m room leaves model h j leaf e).some in
          let above = class_above m leaf.class in
          let same = same_bytes m leaf.class model in
          record { place = 0; is_one = some; from = omega (arith, at); to = omega (arith, at, above, same) }

  -- ---- one base

  -- what holds of both kinds of bases
  record IsMade (base : BaseInfo) : Type 0 where
    room : ℕ
    leaves : are_leaves m room base.shape.cells ≡ true
    shaped : IsShaped base
    texts : HasTexts m base

  heap_made : (base : BaseInfo) → is_heap base.kind ≡ true → is_heap_base m base ≡ true → IsMade base
  heap_made base kind h =
      let a = and_parts (base.shape.heap && (base.size == 0)) (are_leaves m (2 ^ 30) base.shape.cells && (list_all is_single base.shape.cells && are_whole base.shape.zeros)) h in
      let heap = (and_parts base.shape.heap (base.size == 0) a.0).0 in
      let b = and_parts (are_leaves m (2 ^ 30) base.shape.cells) (list_all is_single base.shape.cells && are_whole base.shape.zeros) a.1 in
      let c = and_parts (list_all is_single base.shape.cells) (are_whole base.shape.zeros) b.1 in
      record {
        room = 2 ^ 30;
        leaves = b.0;
        shaped = record {
          kind = same_kind base.kind ∙ (kind ∙ sym heap);
          strides = λ j leaf e. (each_even m (2 ^ 30) base.shape.cells model b.0 j leaf e).stride;
          single = λ g j leaf e. eqb-true leaf.count 1 (all_at is_single base.shape.cells j leaf c.0 e);
          apart = λ g. at_one_place (2 ^ 30) base.shape.cells b.0;
        };
        texts = record {
          texts = λ g. absurd (true≢false (sym heap ∙ g));
          heaps = λ g j p e. let d = and_parts (p.offset == 0) (is_none p.size) (whole_at base.shape.zeros j p c.1 e) in (none_is p.size d.1, eqb-true p.offset 0 d.0);
        };
      }

  declared_made : (base : BaseInfo) → is_heap base.kind ≡ false → is_declared_base m base ≡ true → IsMade base
  declared_made base kind h =
      let a = and_parts (not base.shape.heap && is_extent base.size) (are_leaves m base.size base.shape.cells && (are_parts base.size 0 base.shape.zeros && lie_over 0 base.shape.cells base.shape.zeros)) h in
      let heap : base.shape.heap ≡ false = not-true base.shape.heap (and_parts (not base.shape.heap) (is_extent base.size) a.0).0 in
      let b = and_parts (are_leaves m base.size base.shape.cells) (are_parts base.size 0 base.shape.zeros && lie_over 0 base.shape.cells base.shape.zeros) a.1 in
      let c = and_parts (are_parts base.size 0 base.shape.zeros) (lie_over 0 base.shape.cells base.shape.zeros) b.1 in
      record {
        room = base.size;
        leaves = b.0;
        shaped = record {
          kind = same_kind base.kind ∙ (kind ∙ sym heap);
          strides = λ j leaf e. (each_even m base.size base.shape.cells model b.0 j leaf e).stride;
          single = λ g. absurd (true≢false (sym g ∙ heap));
          apart = λ g. absurd (true≢false (sym g ∙ heap));
        };
        texts = record {
          texts = λ g j p e. let t = each_text m base.size base.shape.cells base.shape.zeros model b.0 (λ i leaf f. (each_even m base.size base.shape.cells model b.0 i leaf f).some) c.1 j p e in (t.size, t.sized, t.tags);
          heaps = λ g. absurd (true≢false (sym g ∙ heap));
        };
      }

  base_made : (base : BaseInfo) → is_shaped m base ≡ true → IsMade base
  base_made base h = elim (cases_Bool (is_heap base.kind)) [
    | inl e ↦ (let g : is_heap_base m base ≡ true = rw e at h in heap_made base e g)
    | inr e ↦ (let g : is_declared_base m base ≡ true = rw e at h in declared_made base e g)
  ]

  pub base_shaped : (base : BaseInfo) → is_shaped m base ≡ true → IsShaped base
  base_shaped base h = (base_made base h).shaped

  pub base_texts : (base : BaseInfo) → is_shaped m base ≡ true → HasTexts m base
  base_texts base h = (base_made base h).texts

  pub base_once : (base : BaseInfo) → is_shaped m base ≡ true → CountsOnce m base
  base_once base h = let r = base_made base h in counted_once m r.room base.shape.cells model r.leaves

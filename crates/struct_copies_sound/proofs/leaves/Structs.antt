-- The leaves of a struct that share no bytes, and the tags that they give.
use Rattle.std.proofs.Common.{◌≡◌, ℕ, zero, suc, ◌+◌, ◌-◌, ◌*◌, ◌/◌, ◌%◌, ◌≤◌, Option, Some, None, List, [], ◌∷◌, arith, subst, sym, refl, ap, ◌∙◌}
use Rattle.std.specs.Prelude.{slice_get, nat_lt, nat_le, ◌&&◌, cond}
use Rattle.std.proofs.lemmas.Bool.{and_from, lt-ltb, le-leb, cond-true}
use Rattle.std.proofs.lemmas.Nat.{div-mul-add, mod-mul-add}
use Rattle.std.proofs.lemmas.Option.{same_Some}
use Rattle.c_layout.specs.declared.data_model.Model.{Model}
use Rattle.c_layout.specs.declared.leaf_lists.Leaf.{Leaf}
use Rattle.memory_model.specs.Memory.ScalarSizes.{class_bytes}
use Rattle.memory_model.specs.Memory.Bytes.{Tag}
use Rattle.memory_model.specs.Memory.Tags.{tag_of, stride_tag, distance_tag, leaf_tag, or_tag, tag_at}
use Rattle.store_sound.specs.Concretization.Places.{OwnedByLeaf}
use Rattle.store_sound.proofs.operations.TagPlaces.{is_tagged}
use Rattle.struct_copies_sound.specs.Leaves.StructLeaves.{IsStruct}

-- ---- one leaf

distance_is : (m : Model) (leaf : Leaf) (d k : ℕ) (own : OwnedByLeaf m leaf d k) → d ≡ leaf.offset + (own.place.turn * leaf.stride + k)
distance_is m leaf d k own =
    let a = own.there in
    let b = own.place.there in
    let e : leaf.stride * own.place.turn ≡ own.place.turn * leaf.stride = omega arith in
    omega (arith, a, b, e)

-- a byte has one number in its scalar
pub same_number : (m : Model) (leaf : Leaf) (d j k : ℕ) → class_bytes m leaf.class ≤ leaf.stride → OwnedByLeaf m leaf d j → OwnedByLeaf m leaf d k → j ≡ k
same_number m leaf d j k fits x y =
    let a = distance_is m leaf d j x in
    let b = distance_is m leaf d k y in
    let s = x.small in
    let t = y.small in
    let e : x.place.turn * leaf.stride + j ≡ y.place.turn * leaf.stride + k = omega (arith, a, b) in
    sym (mod-mul-add x.place.turn leaf.stride j (omega (arith, s, fits))) ∙ (ap (λ z. z % leaf.stride) e ∙ mod-mul-add y.place.turn leaf.stride k (omega (arith, t, fits)))

owned_tag : (m : Model) (leaf : Leaf) (d k : ℕ) → class_bytes m leaf.class ≤ leaf.stride → OwnedByLeaf m leaf d k → leaf_tag m leaf d ≡ tag_of leaf.class k
owned_tag m leaf d k fits own = by_stride leaf.stride refl
  where
    by_stride : (s : ℕ) → leaf.stride ≡ s → cond (nat_le leaf.offset d) (distance_tag m leaf s (d - leaf.offset)) None ≡ tag_of leaf.class k
    by_stride zero e = let small = own.small in absurd (omega (arith, small, fits, e))
    by_stride (suc s) e =
        let turn : ℕ = own.place.turn in
        let small = own.small in
        let below = own.place.few in
        let far = distance_is m leaf d k own in
        let w : turn * leaf.stride ≡ turn * suc s = ap (λ z. turn * z) e in
        let x : d - leaf.offset ≡ turn * suc s + k = omega (arith, far, w) in
        let q : (d - leaf.offset) / suc s ≡ turn = ap (λ z. z / suc s) x ∙ div-mul-add turn (suc s) k (omega (arith, small, fits, e)) in
        let r : (d - leaf.offset) % suc s ≡ k = ap (λ z. z % suc s) x ∙ mod-mul-add turn (suc s) k (omega (arith, small, fits, e)) in
        cond-true (nat_le leaf.offset d) (distance_tag m leaf (suc s) (d - leaf.offset)) None (le-leb leaf.offset d (omega (arith, far)))
        ∙ ((λ i. stride_tag m leaf (q i) (r i)) ∙ cond-true (nat_lt turn leaf.count && nat_lt k (class_bytes m leaf.class)) (tag_of leaf.class k) None (and_from _ _ (lt-ltb _ _ below) (lt-ltb _ _ small)))

-- ---- all leaves

some_tag : (m : Model) (leaves : List Leaf) (number d : ℕ) (leaf : Leaf) (t : Tag) → slice_get leaves number ≡ Some leaf → leaf_tag m leaf d ≡ Some t → (s : Tag) × (tag_at m leaves d ≡ Some s)
some_tag m [] number d leaf t e h = cc
some_tag m (x ∷ xs) zero d leaf t e h =
    let same : x ≡ leaf = same_Some x leaf e in
    (t, ap (λ z. or_tag (leaf_tag m z d) (tag_at m xs d)) same ∙ ap (λ z. or_tag z (tag_at m xs d)) h)
some_tag m (x ∷ xs) (suc number) d leaf t e h = by_first (leaf_tag m x d) (some_tag m xs number d leaf t e h)
  where
    by_first : (o : Option Tag) → (s : Tag) × (tag_at m xs d ≡ Some s) → (s : Tag) × (or_tag o (tag_at m xs d) ≡ Some s)
    by_first None r = r
    by_first (Some s) r = (s, refl)

module _ (m : Model) (leaves : List Leaf) (size : ℕ) (h : IsStruct m leaves size) where
  -- the tag of a leaf's byte is that of the leaf
  pub owned_at : (number d k : ℕ) (leaf : Leaf) → slice_get leaves number ≡ Some leaf → OwnedByLeaf m leaf d k → tag_at m leaves d ≡ tag_of leaf.class k
  owned_at number d k leaf e own =
      let fits = (h.plain number leaf e).fits in
      let s = some_tag m leaves number d leaf (record { class = leaf.class; at = k }) e (owned_tag m leaf d k fits own) in
      let r = is_tagged m leaves d s.0 s.1 in
      let a : r.index ≡ number = h.one r.index number d s.0.at k r.leaf leaf r.among e r.owned own in
      let same : r.leaf ≡ leaf = same_Some r.leaf leaf (sym r.among ∙ (ap (slice_get leaves) a ∙ e)) in
      let at : s.0.at ≡ k = same_number m leaf d s.0.at k fits (subst (λ z. OwnedByLeaf m z d s.0.at) same r.owned) own in
      let class : s.0.class ≡ leaf.class = r.class ∙ ap (λ z. z.class) same in
      s.1 ∙ (λ i. Some (record { class = class i; at = at i }))

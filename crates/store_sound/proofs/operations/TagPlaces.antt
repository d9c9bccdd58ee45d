-- The tags of an object's bytes say where its leaves stand.
use Rattle.std.proofs.Common.{◌≡◌, ℕ, zero, suc, ◌+◌, ◌-◌, ◌*◌, ◌/◌, ◌%◌, ◌<◌, ◌&&◌, Option, Some, None, List, [], ◌∷◌, arith, subst, sym, refl, ◌∙◌, inl, inr}
use Rattle.std.specs.Prelude.{slice_get, nat_lt, nat_le}
use Rattle.std.proofs.lemmas.Bool.{cases_Bool, and_parts, ltb-true, leb-true}
use Rattle.c_layout.specs.declared.data_model.Model.{Model}
use Rattle.c_layout.specs.declared.leaf_lists.Class.{Class}
use Rattle.c_layout.specs.declared.leaf_lists.Leaf.{Leaf}
use Rattle.memory_model.specs.Memory.ScalarSizes.{class_bytes}
use Rattle.memory_model.specs.Memory.Bytes.{Tag}
use Rattle.store_sound.specs.Concretization.Places.{IsPlaceOf, OwnedByLeaf, IsLeafPlace}
use Rattle.memory_model.specs.Memory.Tags.{tag_of, stride_tag, distance_tag, leaf_tag, or_tag, tag_at}

-- the byte so far behind a leaf's start is this one of its scalars
pub record IsTurn (m : Model) (leaf : Leaf) (distance : ℕ) (t : Tag) : Type 0 where
  pub turn : ℕ
  pub few : turn < leaf.count
  pub class : t.class ≡ leaf.class
  pub small : t.at < class_bytes m leaf.class
  pub there : distance ≡ leaf.stride * turn + t.at

stride_is : (m : Model) (leaf : Leaf) (turn rest distance : ℕ) (t : Tag) → distance ≡ leaf.stride * turn + rest → stride_tag m leaf turn rest ≡ Some t → IsTurn m leaf distance t
stride_is m leaf turn rest distance t e h = elim (cases_Bool (nat_lt turn leaf.count && nat_lt rest (class_bytes m leaf.class))) [
  | inr f ↦ (let g : None ≡ Some t = rw f at h in cc)
  | inl f ↦ (let g : tag_of leaf.class rest ≡ Some t = rw f at h in
      let p = and_parts (nat_lt turn leaf.count) (nat_lt rest (class_bytes m leaf.class)) f in
      let d : rest ≡ t.at = cc in
      let s = ltb-true _ _ p.1 in
      record { turn = turn; few = ltb-true _ _ p.0; class = cc; small = omega arith; there = omega arith })
]

distance_is : (m : Model) (leaf : Leaf) (stride distance : ℕ) (t : Tag) → leaf.stride ≡ stride → distance_tag m leaf stride distance ≡ Some t → IsTurn m leaf distance t
distance_is m leaf zero distance t e h = let f : leaf.stride * 0 ≡ 0 = omega arith in stride_is m leaf 0 distance distance t (omega arith) h
distance_is m leaf (suc s) distance t e h =
    let f : suc s * (distance / suc s) + distance % suc s ≡ distance = omega arith in
    stride_is m leaf (distance / suc s) (distance % suc s) distance t (rw e (sym f)) h

pub leaf_owns : (m : Model) (leaf : Leaf) (offset : ℕ) (t : Tag) → leaf_tag m leaf offset ≡ Some t → (t.class ≡ leaf.class) × OwnedByLeaf m leaf offset t.at
leaf_owns m leaf offset t h = elim (cases_Bool (nat_le leaf.offset offset)) [
  | inr f ↦ (let g : None ≡ Some t = rw f at h in cc)
  | inl f ↦ (let g : distance_tag m leaf leaf.stride (offset - leaf.offset) ≡ Some t = rw f at h in
      let r = distance_is m leaf leaf.stride (offset - leaf.offset) t refl g in
      let k = leb-true _ _ f in
      let d = r.there in
      (r.class, record { start = leaf.offset + leaf.stride * r.turn; place = record { turn = r.turn; few = r.few; there = refl }; there = omega arith; small = r.small }))
]

-- the leaf whose byte an offset is
pub record IsTagged (m : Model) (leaves : List Leaf) (offset : ℕ) (t : Tag) : Type 0 where
  pub index : ℕ
  pub leaf : Leaf
  pub among : slice_get leaves index ≡ Some leaf
  pub class : t.class ≡ leaf.class
  pub owned : OwnedByLeaf m leaf offset t.at

tagged_or : (m : Model) (leaf : Leaf) (leaves : List Leaf) (offset : ℕ) (t : Tag) (o : Option Tag) → leaf_tag m leaf offset ≡ o → or_tag o (tag_at m leaves offset) ≡ Some t → (IsTagged m leaves offset t → IsTagged m (leaf ∷ leaves) offset t) → (tag_at m leaves offset ≡ Some t → IsTagged m leaves offset t) → IsTagged m (leaf ∷ leaves) offset t
tagged_or m leaf leaves offset t None e h up back = up (back h)
tagged_or m leaf leaves offset t (Some s) e h up back = let r = leaf_owns m leaf offset t (e ∙ h) in record { index = 0; leaf = leaf; among = refl; class = r.0; owned = r.1 }

pub is_tagged : (m : Model) (leaves : List Leaf) (offset : ℕ) (t : Tag) → tag_at m leaves offset ≡ Some t → IsTagged m leaves offset t
is_tagged m [] offset t h = cc
is_tagged m (leaf ∷ leaves) offset t h = tagged_or m leaf leaves offset t (leaf_tag m leaf offset) refl h (λ r. record { index = suc r.index; leaf = r.leaf; among = r.among; class = r.class; owned = r.owned }) (is_tagged m leaves offset t)

pub tag_place : (m : Model) (leaves : List Leaf) (offset : ℕ) (class : Class) → tag_at m leaves offset ≡ tag_of class 0 → IsLeafPlace leaves class offset
tag_place m leaves offset class h =
    let r = is_tagged m leaves offset (record { class = class; at = 0 }) h in
    let e : offset ≡ r.owned.start = let f = r.owned.there in omega arith in
    record { leaf = r.leaf; at = r.index; among = r.among; same = sym r.class; place = subst (IsPlaceOf r.leaf) (sym e) r.owned.place }

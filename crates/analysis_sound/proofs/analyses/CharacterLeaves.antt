-- Bytes that leaves of characters reach over are tagged as characters, where no two leaves share a byte.
use Rattle.std.proofs.Common.{◌≡◌, ℕ, zero, suc, ◌+◌, ◌-◌, ◌/◌, ◌%◌, ◌^◌, ◌<◌, ◌≤◌, Bool, true, false, not, cond, ◌&&◌, Option, Some, None, List, [], ◌∷◌, arith, subst, sym, refl, ap, ◌∙◌, inl, inr}
use Rattle.std.specs.Prelude.{min, slice_get, ◌==◌, nat_lt, nat_le}
use Rattle.std.specs.List.{list_all}
use Rattle.std.proofs.lemmas.Bool.{cases_lt, and_parts, eqb-true, ltb-true, leb-true, le-leb, lt-ltb}
use Rattle.std.proofs.lemmas.Option.{same_Some}
use Rattle.c_layout.specs.Models.{is_model}
use Rattle.c_layout.specs.declared.data_model.Model.{Model}
use Rattle.c_layout.specs.declared.leaf_lists.Class.TheVariants.{Char}
use Rattle.c_layout.specs.declared.leaf_lists.Leaf.{Leaf}
use Rattle.c_layout.specs.declared.shapes.BaseInfo.{BaseInfo}
use Rattle.cfg.specs.ModelKinds as program
use Rattle.cfg.specs.ApartLeaves.{HasByte}
use Rattle.cfg.specs.BaseShapes.{is_extent, is_place, are_leaves, are_parts, lie_over, are_whole, is_heap, is_single, is_heap_base, is_declared_base, is_shaped}
use Rattle.analysis_preconditions.specs.Objects.SpelledTexts.{behind_characters, reaches_over}
use Rattle.memory_model.specs.Memory.Bytes.{Tag}
use Rattle.memory_model.specs.Memory.ScalarSizes.{class_bytes}
use Rattle.memory_model.specs.Memory.Tags.{tag_of, distance_tag, leaf_tag, or_tag, tag_at}
use Rattle.store_sound.proofs.operations.Classes.{same_class_is}
use Rattle.store_sound.proofs.operations.TagPlaces.{leaf_owns}
use Rattle.store_sound.proofs.programs.Leaves.{one_owner}
use Rattle.store_sound.proofs.programs.Sizes.{same_bytes}

-- ---- one leaf

record IsCharacterOf (leaf : Leaf) (x : ℕ) : Type 0 where
  class : leaf.class ≡ Char
  from : leaf.offset ≤ x
  apart : 0 < leaf.stride
  starts : (x - leaf.offset) % leaf.stride ≡ 0
  turns : (x - leaf.offset) / leaf.stride < leaf.count

character_of : (leaf : Leaf) (x : ℕ) → is_place Char x leaf ≡ true → IsCharacterOf leaf x
character_of leaf x h =
    let a = and_parts (program.same_class Char leaf.class) _ h in
    let b = and_parts (nat_lt 0 leaf.stride) _ a.1 in
    let c = and_parts (nat_le leaf.offset x) _ b.1 in
    let d = and_parts ((x - leaf.offset) % leaf.stride == 0) (nat_lt ((x - leaf.offset) / leaf.stride) leaf.count) c.1 in
    record {
      class = sym (same_class_is Char leaf.class a.0);
      from = leb-true leaf.offset x c.0;
      apart = ltb-true 0 leaf.stride b.0;
      starts = eqb-true ((x - leaf.offset) % leaf.stride) 0 d.0;
      turns = ltb-true ((x - leaf.offset) / leaf.stride) leaf.count d.1;
    }

-- characters side by side
side_by_side : (leaf : Leaf) (at x : ℕ) → leaf.stride ≡ 1 → IsCharacterOf leaf at → at ≤ x → x < at + (leaf.count - (at - leaf.offset)) → IsCharacterOf leaf x
side_by_side leaf at x stride h from to =
    let start = h.from in
    let few : (at - leaf.offset) / 1 < leaf.count = subst (λ s. (at - leaf.offset) / s < leaf.count) stride h.turns in
    let starts : (x - leaf.offset) % 1 ≡ 0 = omega arith in
    let turns : (x - leaf.offset) / 1 < leaf.count = omega (arith, start, few, from, to) in
    record {
      class = h.class;
      from = omega (arith, start, from);
      apart = h.apart;
      starts = subst (λ s. (x - leaf.offset) % s ≡ 0) (sym stride) starts;
      turns = subst (λ s. (x - leaf.offset) / s < leaf.count) (sym stride) turns;
    }

below_min : (at x a b : ℕ) → x < at + min a b → x < at + b
below_min at x a b h = omega (arith, h)

within_run : (leaf : Leaf) (at end x : ℕ) → at ≤ x → x < behind_characters leaf at end → IsCharacterOf leaf x
within_run leaf at end x from = by_place (nat_lt at end && is_place Char at leaf) refl
  where
    by_stride : IsCharacterOf leaf at → (c : Bool) → (leaf.stride == 1) ≡ c → x < cond c (at + min (end - at) (leaf.count - (at - leaf.offset))) (at + 1) → IsCharacterOf leaf x
    by_stride h true e to = side_by_side leaf at x (eqb-true leaf.stride 1 e) h from (below_min at x (end - at) (leaf.count - (at - leaf.offset)) to)
    by_stride h false e to = let same : at ≡ x = omega (arith, from, to) in subst (IsCharacterOf leaf) same h

    by_place : (c : Bool) → (nat_lt at end && is_place Char at leaf) ≡ c → x < cond c (cond (leaf.stride == 1) (at + min (end - at) (leaf.count - (at - leaf.offset))) (at + 1)) at → IsCharacterOf leaf x
    by_place false e to = absurd (omega (arith, from, to))
    by_place true e to = by_stride (character_of leaf at (and_parts (nat_lt at end) (is_place Char at leaf) e).1) (leaf.stride == 1) refl to

-- ---- all leaves

record HasCharacter (leaves : List Leaf) (x : ℕ) : Type 0 where
  index : ℕ
  leaf : Leaf
  among : slice_get leaves index ≡ Some leaf
  character : IsCharacterOf leaf x

reached : (leaves : List Leaf) (at end x : ℕ) → reaches_over leaves at end ≡ true → at ≤ x → x < end → HasCharacter leaves x
reached [] at end x h from to = let e = eqb-true at end h in absurd (omega (arith, e, from, to))
reached (leaf ∷ leaves) at end x h from to = elim (cases_lt x (behind_characters leaf at end)) [
  | inl a ↦ record { index = 0; leaf = leaf; among = refl; character = within_run leaf at end x from a }
  | inr a ↦ (let r = reached leaves (behind_characters leaf at end) end x h a to in record { index = suc r.index; leaf = r.leaf; among = r.among; character = r.character })
]

module _ (m : Model) (model : is_model m ≡ true) where
  character_tag : (leaf : Leaf) (x : ℕ) → IsCharacterOf leaf x → leaf_tag m leaf x ≡ tag_of Char 0
  character_tag leaf x h = by_stride leaf.stride refl
    where
      by_stride : (s : ℕ) → leaf.stride ≡ s → cond (nat_le leaf.offset x) (distance_tag m leaf s (x - leaf.offset)) None ≡ tag_of Char 0
      by_stride zero e = let apart = h.apart in absurd (omega (arith, apart, e))
      by_stride (suc s) e =
          let size : class_bytes m leaf.class ≡ 1 = ap (class_bytes m) h.class in
          let starts : (x - leaf.offset) % suc s ≡ 0 = subst (λ z. (x - leaf.offset) % z ≡ 0) e h.starts in
          let turn : nat_lt ((x - leaf.offset) / suc s) leaf.count ≡ true = lt-ltb _ _ (subst (λ z. (x - leaf.offset) / z < leaf.count) e h.turns) in
          let rest : nat_lt 0 (class_bytes m leaf.class) ≡ true = lt-ltb _ _ (omega (arith, size)) in
          rw (le-leb leaf.offset x h.from, starts, turn, rest) (ap (λ c. tag_of c 0) h.class)

  tagged_byte : (leaf : Leaf) (x : ℕ) (t : Tag) → leaf_tag m leaf x ≡ Some t → HasByte m leaf x
  tagged_byte leaf x t h =
      let w = (leaf_owns m leaf x t h).1 in
      let same = same_bytes m leaf.class model in
      let there = w.there in
      let start = w.place.there in
      let small = w.small in
      record { place = w.place.turn; is_one = w.place.few; from = omega (arith, there, start); to = omega (arith, there, start, small, same) }

  -- the tag of a byte is that of the one leaf that has it
  one_tag : (ls : List Leaf) (k : ℕ) (leaf : Leaf) (x : ℕ) (t : Tag) → slice_get ls k ≡ Some leaf → leaf_tag m leaf x ≡ Some t → ((j : ℕ) (other : Leaf) (u : Tag) → slice_get ls j ≡ Some other → leaf_tag m other x ≡ Some u → j ≡ k) → tag_at m ls x ≡ Some t
  one_tag [] k leaf x t e h one = absurd (none_some leaf e)
    where
      none_some : (l : Leaf) → None ≡ Some l → ⊥
      none_some l f = cc
  one_tag (l ∷ ls) zero leaf x t e h one =
      let same : l ≡ leaf = same_Some l leaf e in
      ap (λ z. or_tag z (tag_at m ls x)) (ap (λ z. leaf_tag m z x) same ∙ h)
  one_tag (l ∷ ls) (suc k) leaf x t e h one = by_first (leaf_tag m l x) refl (one_tag ls k leaf x t e h (λ j other u g i. let n = one (suc j) other u g i in omega (arith, n)))
    where
      by_first : (o : Option Tag) → leaf_tag m l x ≡ o → tag_at m ls x ≡ Some t → or_tag o (tag_at m ls x) ≡ Some t
      by_first None f rest = rest
      by_first (Some u) f rest = let n = one 0 l u refl f in absurd (omega (arith, n))

  character_at : (room : ℕ) (leaves : List Leaf) (x : ℕ) → are_leaves m room leaves ≡ true → HasCharacter leaves x → tag_at m leaves x ≡ tag_of Char 0
  character_at room leaves x h c =
      let own = character_tag c.leaf x c.character in
      one_tag leaves c.index c.leaf x _ c.among own (λ j other u g i. one_owner m room leaves h j c.index other c.leaf g c.among x (tagged_byte other x u i) (tagged_byte c.leaf x _ own))

  record AreApart (base : BaseInfo) : Type 0 where
    room : ℕ
    leaves : are_leaves m room base.shape.cells ≡ true

  leaves_of : (base : BaseInfo) → is_shaped m base ≡ true → AreApart base
  leaves_of base = by_kind (is_heap base.kind)
    where
      by_kind : (c : Bool) → cond c (is_heap_base m base) (is_declared_base m base) ≡ true → AreApart base
      by_kind true h =
          let a = and_parts (base.shape.heap && (base.size == 0)) (are_leaves m (2 ^ 30) base.shape.cells && (list_all is_single base.shape.cells && are_whole base.shape.zeros)) h in
          record { room = 2 ^ 30; leaves = (and_parts (are_leaves m (2 ^ 30) base.shape.cells) (list_all is_single base.shape.cells && are_whole base.shape.zeros) a.1).0 }
      by_kind false h =
          let a = and_parts (not base.shape.heap && is_extent base.size) (are_leaves m base.size base.shape.cells && (are_parts base.size 0 base.shape.zeros && lie_over 0 base.shape.cells base.shape.zeros)) h in
          record { room = base.size; leaves = (and_parts (are_leaves m base.size base.shape.cells) (are_parts base.size 0 base.shape.zeros && lie_over 0 base.shape.cells base.shape.zeros) a.1).0 }

  -- the leaves of a well-formed base that reach over some room tag all of it as characters
  pub characters_over : (base : BaseInfo) → is_shaped m base ≡ true → (at end : ℕ) → reaches_over base.shape.cells at end ≡ true → (x : ℕ) → at ≤ x → x < end → tag_at m base.shape.cells x ≡ tag_of Char 0
  characters_over base h at end over x from to =
      let a = leaves_of base h in
      character_at a.room base.shape.cells x a.leaves (reached base.shape.cells at end x over from to)

-- The machine copies a struct from one of its places to another one.
use Rattle.std.proofs.Common.{◌≡◌, ℕ, suc, ◌+◌, ◌-◌, ◌*◌, ◌<◌, ◌≤◌, Bool, true, false, not, ◌&&◌, ◌||◌, Option, Some, None, List, [], ◌∷◌, arith, subst, sym, refl, ap, ◌∙◌, inl, inr}
use Rattle.std.specs.Prelude.{slice_get, nat_le, ◌==◌, max}
use Rattle.std.proofs.lemmas.Bool.{cases_Bool, and_parts, and_from, or_left, or_right, eq-eqb, eqb-true}
use Rattle.std.proofs.lemmas.Bool.Decides.{nat_tests}
use Rattle.c_layout.specs.Leaves.{leaves_of}
use Rattle.c_layout.specs.StructViews.{StructView, structs_view}
use Rattle.c_layout.specs.Types.{Struct}
use Rattle.c_layout.specs.declared.data_model.Model.{Model}
use Rattle.c_layout.specs.declared.leaf_lists.Class.TheVariants.{Pointer}
use Rattle.c_layout.specs.declared.leaf_lists.Leaf.{Leaf}
use Rattle.c_layout.specs.declared.shapes.BaseInfo.{BaseInfo}
use Rattle.cfg.specs.declared.programs.Flow.{Flow}
use Rattle.memory_model.specs.Memory.Bytes.{Content, indeterminate, number, part, Tag, Byte}
use Rattle.memory_model.specs.Memory.Instances.{Memory, bytes_at, byte_at}
use Rattle.memory_model.specs.Memory.ScalarSizes.{class_bytes, is_pointer}
use Rattle.memory_model.specs.Memory.Tags.{tag_of, fits_tag, tag_at}
use Rattle.memory_model.specs.Effects.ScalarBytes.{region}
use Rattle.memory_model.specs.Effects.StructCopies.{overlap, same_spot, fits_leaf, fit_type, is_pointer_tag, may_be_copied, keeps_parts}
use Rattle.memory_model.specs.Effects.Touches.{Spot}
use Rattle.store_sound.specs.Concretization.Places.{OwnedByLeaf}
use Rattle.store_sound.specs.Concretization.SoundMemory.{IsContentIn}
use Rattle.store_sound.proofs.operations.Classes.{is_same_class}
use Rattle.store_sound.proofs.operations.Reading.{region_at}
use Rattle.store_sound.proofs.operations.TagPlaces.{is_tagged}
use Rattle.struct_copies_sound.proofs.leaves.Structs.{owned_at}
use Rattle.struct_copies_sound.specs.Leaves.StructLeaves.{IsStruct}
use Rattle.struct_copies_sound.specs.Structs.StructTables.{IsListed}
use Rattle.transfer_exact.proofs.places.OneLeaf.{owned}
use Rattle.transfer_exact.specs.Spelling.TypedCopies.{IsAtStruct}

-- ---- all bytes of a region

module _ (m : Model) (leaves : List Leaf) where
  fit_all : (allocated : Bool) (from : ℕ) (bs : List Byte) → ((k x : ℕ) (b : Byte) → slice_get bs k ≡ Some b → x ≡ from + k → fits_leaf allocated (tag_at m leaves x) b ≡ true) → fit_type m leaves allocated from bs ≡ true
  fit_all allocated from [] h = refl
  fit_all allocated from (b ∷ bs) h = and_from _ _ (h 0 from b refl (omega arith)) (fit_all allocated (suc from) bs (λ k x c e f. h (suc k) x c e (omega (arith, f))))

  parts_all : (from : ℕ) (bs : List Byte) → ((k x : ℕ) (b : Byte) → slice_get bs k ≡ Some b → x ≡ from + k → may_be_copied b.content (tag_at m leaves x) ≡ true) → keeps_parts m leaves from bs ≡ true
  parts_all from [] h = refl
  parts_all from (b ∷ bs) h = and_from _ _ (h 0 from b refl (omega arith)) (parts_all (suc from) bs (λ k x c e f. h (suc k) x c e (omega (arith, f))))

-- ---- an object in which the struct stands

module _ (flow : Flow) (index : ℕ) (view : StructView) (listed : IsListed flow.model (structs_view flow.structs) index view) (base : BaseInfo) (start : ℕ) (there : IsAtStruct flow index view base start)
    (h : IsStruct flow.model base.shape.cells base.size) (single : (j : ℕ) (leaf : Leaf) → slice_get base.shape.cells j ≡ Some leaf → leaf.count ≡ 1)
    (memory : Memory) (i : ℕ) (tagged : (x : ℕ) (w : Byte) → byte_at memory i x ≡ Some w → w.tag ≡ tag_at flow.model base.shape.cells x) (sane : (x : ℕ) (w : Byte) → byte_at memory i x ≡ Some w → IsContentIn memory w.content w.tag) where
  abbrev leaves : List Leaf
  leaves = leaves_of (structs_view flow.structs) flow.model.pointer (Struct index)

  fits_byte : (k : ℕ) (w : Byte) → byte_at memory i (start + k) ≡ Some w → fits_leaf false (tag_at flow.model leaves k) w ≡ true
  fits_byte k w e = by_tag (tag_at flow.model leaves k) refl
    where
      by_tag : (o : Option Tag) → tag_at flow.model leaves k ≡ o → fits_leaf false o w ≡ true
      by_tag None f = refl
      by_tag (Some t) f =
          let r = is_tagged flow.model leaves k t f in
          let z = there.leaves r.index r.leaf r.among in
          let once = z.same.alone in
          let place = r.owned.place in
          let turn = place.few in
          let first : place.turn ≡ 0 = omega (arith, once, turn) in
          let stride : r.leaf.stride * place.turn ≡ r.leaf.stride * 0 = ap (λ y. r.leaf.stride * y) first in
          let at = place.there in
          let rest = r.owned.there in
          let small = r.owned.small in
          let begins = z.same.there in
          let bytes : class_bytes flow.model z.own.class ≡ class_bytes flow.model r.leaf.class = ap (class_bytes flow.model) z.same.class in
          let own = owned flow.model base.shape.cells base.size h single z.number (start + k) t.at z.own z.among (omega (arith, begins, at, rest, stride)) (omega (arith, small, bytes)) in
          let tag : w.tag ≡ tag_of z.own.class t.at = tagged (start + k) w e ∙ owned_at flow.model base.shape.cells base.size h z.number (start + k) t.at z.own z.among own in
          let class : z.own.class ≡ t.class = z.same.class ∙ sym r.class in
          or_right _ _ (subst (λ y. fits_tag false t.class t.at y ≡ true) (sym tag) (and_from _ _ (is_same_class z.own.class t.class class) (eq-eqb t.at t.at refl)))

  may_byte : (k : ℕ) (w : Byte) → k < view.size → byte_at memory i (start + k) ≡ Some w → may_be_copied w.content (tag_at flow.model leaves k) ≡ true
  may_byte k w below e = by_content w.content (sane (start + k) w e)
    where
      by_content : (c : Content) → IsContentIn memory c w.tag → may_be_copied c (tag_at flow.model leaves k) ≡ true
      by_content indeterminate g = refl
      by_content (number z la) g = refl
      by_content (part p j) g =
          let r = is_tagged flow.model base.shape.cells (start + k) (record { class = Pointer; at = j }) (sym (tagged (start + k) w e) ∙ g.1) in
          let z = there.only r.index (start + k) j r.leaf r.among (omega arith) (omega (arith, below)) r.owned in
          let once = z.same.alone in
          let count = single r.index r.leaf r.among in
          let place = r.owned.place in
          let turn = place.few in
          let first : place.turn ≡ 0 = omega (arith, count, turn) in
          let stride : r.leaf.stride * place.turn ≡ r.leaf.stride * 0 = ap (λ y. r.leaf.stride * y) first in
          let at = place.there in
          let rest = r.owned.there in
          let small = r.owned.small in
          let begins = z.same.there in
          let bytes : class_bytes flow.model r.leaf.class ≡ class_bytes flow.model z.leaf.class = ap (class_bytes flow.model) z.same.class in
          let own : OwnedByLeaf flow.model z.leaf k j = record { start = z.leaf.offset; place = record { turn = 0; few = omega (arith, once); there = omega arith }; there = omega (arith, begins, at, rest, stride); small = omega (arith, small, bytes) } in
          let tag : tag_at flow.model leaves k ≡ tag_of z.leaf.class j = owned_at flow.model leaves view.size listed.struct z.number k j z.leaf z.among own in
          let class : z.leaf.class ≡ Pointer = sym z.same.class ∙ sym r.class in
          subst (λ y. is_pointer_tag y ≡ true) (sym tag) (ap is_pointer class)

  pub fits_there : fit_type flow.model leaves false 0 (region (bytes_at memory i) start view.size) ≡ true
  unfolding byte_at
  fits_there = fit_all flow.model leaves false 0 (region (bytes_at memory i) start view.size) (λ k x b e f.
      let at = region_at (bytes_at memory i) start view.size k (start + k) b e refl in
      let same : k ≡ x = omega (arith, f) in
      subst (λ z. fits_leaf false (tag_at flow.model leaves z) b ≡ true) same (fits_byte k b at.1))

  pub parts_there : keeps_parts flow.model leaves 0 (region (bytes_at memory i) start view.size) ≡ true
  unfolding byte_at
  parts_there = parts_all flow.model leaves 0 (region (bytes_at memory i) start view.size) (λ k x b e f.
      let at = region_at (bytes_at memory i) start view.size k (start + k) b e refl in
      let same : k ≡ x = omega (arith, f) in
      subst (λ z. may_be_copied b.content (tag_at flow.model leaves z) ≡ true) same (may_byte k b at.0 at.1))

-- ---- both places

pub apart_there : (to from : Spot) (size : ℕ) → ((x : ℕ) → to.instance ≡ from.instance → to.offset ≤ x → x < to.offset + size → from.offset ≤ x → x < from.offset + size → to.offset ≡ from.offset) → (same_spot to from || not (overlap to size from size)) ≡ true
apart_there to from size h = elim (cases_Bool (overlap to size from size)) [
  | inr e ↦ or_right _ _ (ap not e)
  | inl e ↦ (let p = and_parts (to.instance == from.instance) (not (nat_le (to.offset + size) from.offset) && not (nat_le (from.offset + size) to.offset)) e in
      let q = and_parts (not (nat_le (to.offset + size) from.offset)) (not (nat_le (from.offset + size) to.offset)) p.1 in
      let a : from.offset < to.offset + size = less (to.offset + size) from.offset q.0 in
      let b : to.offset < from.offset + size = less (from.offset + size) to.offset q.1 in
      let same = eqb-true to.instance from.instance p.0 in
      let one = h (max to.offset from.offset) same (omega arith) (omega (arith, a, b)) (omega arith) (omega (arith, a, b)) in
      or_left _ _ (and_from _ _ p.0 (eq-eqb to.offset from.offset one)))
]
  where
    less : (x y : ℕ) → not (nat_le x y) ≡ true → y < x
    less x y g = grind (arith, nat_tests)

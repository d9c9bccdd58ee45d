-- The leaves of each object of a well-formed program without folded arrays share no byte, and lie within it.
use Rattle.std.proofs.Common.{◌≡◌, ℕ, zero, suc, ◌+◌, ◌*◌, ◌^◌, ◌<◌, ◌≤◌, Bool, true, false, not, cond, ◌&&◌, Some, List, [], ◌∷◌, arith, subst, sym, refl, ap, ◌∙◌}
use Rattle.std.specs.Prelude.{slice_get, ◌==◌, nat_lt, nat_le}
use Rattle.std.specs.List.{list_all}
use Rattle.std.proofs.lemmas.Bool.{and_parts, eqb-true, eq-eqb, leb-true, true≢false}
use Rattle.cc_base.specs.declared.limit_table.Limits.{Limits}
use Rattle.c_layout.specs.Models.{is_model}
use Rattle.c_layout.specs.declared.data_model.Model.{Model}
use Rattle.c_layout.specs.declared.leaf_lists.Leaf.{Leaf}
use Rattle.c_layout.specs.declared.shapes.BaseInfo.{BaseInfo}
use Rattle.cfg.specs.ApartLeaves.{HasByte}
use Rattle.cfg.specs.BaseShapes.{is_extent, leaf_end, array_end, has_extents, is_stride, is_behind, is_beside, is_apart, follows, first_of, are_apart, nowhere, are_leaves, are_parts, lie_over, are_whole, is_heap, is_single, is_heap_base, is_declared_base, is_shaped}
use Rattle.cfg.specs.ModelKinds as program
use Rattle.cfg.specs.WellFormed.{is_well_formed}
use Rattle.cfg.specs.declared.programs.Flow.{Flow}
use Rattle.memory_model.specs.Memory.ScalarSizes.{class_bytes}
use Rattle.store_sound.specs.Concretization.Places.{OwnedByLeaf}
use Rattle.store_sound.proofs.programs.CountedBytes.{each_even}
use Rattle.store_sound.proofs.programs.Leaves.{one_owner}
use Rattle.store_sound.proofs.programs.ShapedBases.{all_at}
use Rattle.store_sound.proofs.programs.Sizes.{same_bytes}
use Rattle.store_sound.proofs.programs.WellFormedPremises.{well_formed_good}
use Rattle.struct_copies_sound.specs.Leaves.StructLeaves.{IsPlain, IsStruct}
use Rattle.transfer_exact.specs.Values.SingleRows.{IsPlainProgram}
use Rattle.transfer_exact.specs.Accesses.TypedAccesses.{HasObjects}

module _ (m : Model) where
  record IsWithin (room : ℕ) (leaf : Leaf) : Type 0 where
    wide : leaf.stride ≤ 2 ^ 30
    end : leaf.offset + program.class_bytes m leaf.class ≤ room

  -- the array of the first leaf ends within the room
  record GoesOn (room : ℕ) (first l : Leaf) : Type 0 where
    ends : array_end (first_of first l) ≤ room
    own : l.count ≡ 1 → IsWithin room l

  one_place : (room : ℕ) (first : Leaf) (taken : ℕ) (l : Leaf) → array_end first ≤ room → follows m room first taken l ≡ true → GoesOn room first l
  one_place room first taken l ends h = by_behind (is_behind first l) refl apart
    where
      apart : is_apart m room first taken l ≡ true
      apart = (and_parts (has_extents l && is_stride m l) (is_apart m room first taken l) h).1

      single : (has_extents l && is_stride m l) ≡ true
      single = (and_parts (has_extents l && is_stride m l) (is_apart m room first taken l) h).0

      extents : has_extents l ≡ true
      extents = (and_parts (has_extents l) (is_stride m l) single).0

      stride : is_stride m l ≡ true
      stride = (and_parts (has_extents l) (is_stride m l) single).1

      wide : l.stride ≤ 2 ^ 30
      wide = leb-true l.stride (2 ^ 30) (and_parts (is_extent l.stride) (is_extent l.count) (and_parts (is_extent l.offset) (is_extent l.stride && is_extent l.count) extents).1).0

      by_behind : (c : Bool) → is_behind first l ≡ c → cond c (nat_lt 0 l.count && nat_le (array_end l) room) (is_beside m first taken l) ≡ true → GoesOn room first l
      by_behind true e k =
          let inside = leb-true (array_end l) room (and_parts (nat_lt 0 l.count) (nat_le (array_end l) room) k).1 in
          let same : first_of first l ≡ l = ap (λ z. cond z l first) e in
          record {
            ends = subst (λ z. array_end z ≤ room) (sym same) inside;
            own = λ one.
                let length : l.stride ≡ program.class_bytes m l.class = eqb-true l.stride (program.class_bytes m l.class) (sym (ap (λ z. cond z (l.stride == program.class_bytes m l.class) (nat_le (program.class_bytes m l.class) l.stride)) (eq-eqb l.count 1 one)) ∙ stride) in
                let times = ap (λ z. l.stride * z) one in
                record { wide = wide; end = omega (arith, inside, length, times) };
          }
      by_behind false e k =
          let same : first_of first l ≡ first = ap (λ z. cond z l first) e in
          let b = and_parts ((l.stride == first.stride) && (l.count == first.count)) (nat_le taken l.offset && nat_le (leaf_end m l) (first.offset + first.stride)) k in
          let count = eqb-true l.count first.count (and_parts (l.stride == first.stride) (l.count == first.count) b.0).1 in
          let end = leb-true (leaf_end m l) (first.offset + first.stride) (and_parts (nat_le taken l.offset) (nat_le (leaf_end m l) (first.offset + first.stride)) b.1).1 in
          record {
            ends = subst (λ z. array_end z ≤ room) (sym same) ends;
            own = λ one. let times = ap (λ z. first.stride * z) (sym count ∙ one) in record { wide = wide; end = omega (arith, ends, end, times) };
          }

  each_place : (room : ℕ) (first : Leaf) (taken : ℕ) (ls : List Leaf) → array_end first ≤ room → are_apart m room first taken ls ≡ true → (j : ℕ) (leaf : Leaf) → slice_get ls j ≡ Some leaf → leaf.count ≡ 1 → IsWithin room leaf
  each_place room first taken [] ends h j leaf e one = cc
  each_place room first taken (l ∷ ls) ends h zero leaf e one =
      let d : l ≡ leaf = cc in
      let a = and_parts (follows m room first taken l) (are_apart m room (first_of first l) (leaf_end m l) ls) h in
      subst (IsWithin room) d ((one_place room first taken l ends a.0).own (ap (λ (z : Leaf). z.count) d ∙ one))
  each_place room first taken (l ∷ ls) ends h (suc j) leaf e one =
      let a = and_parts (follows m room first taken l) (are_apart m room (first_of first l) (leaf_end m l) ls) h in
      each_place room (first_of first l) (leaf_end m l) ls (one_place room first taken l ends a.0).ends a.1 j leaf e one

  module _ (model : is_model m ≡ true) where
    has_byte : (leaf : Leaf) (d k : ℕ) → OwnedByLeaf m leaf d k → HasByte m leaf d
    has_byte leaf d k w =
        let there = w.there in
        let start = w.place.there in
        let small = w.small in
        let same = same_bytes m leaf.class model in
        record { place = w.place.turn; is_one = w.place.few; from = omega (arith, there, start); to = omega (arith, there, start, small, same) }

    object_struct : (base : BaseInfo) → is_shaped m base ≡ true → base.shape.heap ≡ false → ((j : ℕ) (leaf : Leaf) → slice_get base.shape.cells j ≡ Some leaf → leaf.count ≡ 1) → IsStruct m base.shape.cells base.size
    object_struct base shaped heap single = by_kind (is_heap base.kind) shaped
      where
        by_kind : (c : Bool) → cond c (is_heap_base m base) (is_declared_base m base) ≡ true → IsStruct m base.shape.cells base.size
        by_kind true h =
            let a = and_parts (base.shape.heap && (base.size == 0)) (are_leaves m (2 ^ 30) base.shape.cells && (list_all is_single base.shape.cells && are_whole base.shape.zeros)) h in
            absurd (true≢false (sym (and_parts base.shape.heap (base.size == 0) a.0).0 ∙ heap))
        by_kind false h =
            let a = and_parts (not base.shape.heap && is_extent base.size) (are_leaves m base.size base.shape.cells && (are_parts base.size 0 base.shape.zeros && lie_over 0 base.shape.cells base.shape.zeros)) h in
            let leaves = (and_parts (are_leaves m base.size base.shape.cells) (are_parts base.size 0 base.shape.zeros && lie_over 0 base.shape.cells base.shape.zeros) a.1).0 in
            let within : (j : ℕ) (leaf : Leaf) → slice_get base.shape.cells j ≡ Some leaf → IsWithin base.size leaf = λ j leaf e. each_place base.size nowhere 0 base.shape.cells (omega arith) leaves j leaf e (single j leaf e) in
            record {
              small = leb-true base.size (2 ^ 30) (and_parts (not base.shape.heap) (is_extent base.size) a.0).1;
              plain = λ j leaf e.
                  let even = each_even m base.size base.shape.cells model leaves j leaf e in
                  let one = single j leaf e in
                  let times = ap (λ z. z * leaf.stride) one in
                  let wide = (within j leaf e).wide in
                  record { some = even.some; fits = even.wide; few = omega (arith, one); near = omega (arith, times, wide) };
              inside = λ j d k leaf e w.
                  let end = (within j leaf e).end in
                  let one = single j leaf e in
                  let few = w.place.few in
                  let there = w.there in
                  let start = w.place.there in
                  let small = w.small in
                  let same = same_bytes m leaf.class model in
                  let first : w.place.turn ≡ 0 = omega (arith, one, few) in
                  let times = ap (λ z. leaf.stride * z) first in
                  omega (arith, end, there, start, small, same, times);
              one = λ x y d j k a b e f v w. one_owner m base.size base.shape.cells leaves x y a b e f d (has_byte a d j v) (has_byte b d k w);
            }

pub has_objects : (limits : Limits) (flow : Flow) → is_well_formed limits flow ≡ true → IsPlainProgram flow → HasObjects flow
has_objects limits flow good plain b base is =
    let g = well_formed_good limits flow good in
    object_struct flow.model g.model base (all_at (is_shaped flow.model) flow.bases.items b base g.shaped is) (plain.no_heap b base is) (λ j leaf e. plain.apart b j base leaf is e)

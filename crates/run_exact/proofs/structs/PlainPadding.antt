-- The padding of a copied struct meets no leaf of an object in which the struct stands.
use Rattle.std.proofs.Common.{◌≡◌, ℕ, zero, ◌+◌, ◌-◌, ◌*◌, ◌/◌, ◌%◌, ◌<◌, ◌≤◌, ◌^◌, Bool, true, false, not, ◌&&◌, ◌||◌, Option, Some, None, List, arith, subst, sym, refl, ap, ◌∙◌, inl, inr}
use Rattle.std.specs.Prelude.{slice_get, nat_le, nat_lt, ◌==◌, max, min}
use Rattle.std.proofs.lemmas.Bool.{cases_Bool, cases_lt, leb-true, lt-ltb, le-ltb, le-leb, lt-leb, ne_eqb, or_left, cond-true, cond-false, or_from}
use Rattle.std.proofs.lemmas.Nat.{div-add-mod', div_below}
use Rattle.std.proofs.Math.Nat.{div_self}
use Rattle.std.proofs.lemmas.Option.{slice_get_within}
use Rattle.c_layout.specs.Leaves.{leaves_of}
use Rattle.c_layout.specs.StructViews.{StructView, structs_view}
use Rattle.c_layout.specs.Types.{Struct}
use Rattle.c_layout.specs.declared.data_model.Model.{Model}
use Rattle.c_layout.specs.declared.leaf_lists.Leaf.{Leaf}
use Rattle.c_layout.specs.declared.shapes.BaseInfo.{BaseInfo}
use Rattle.cfg.specs.declared.programs.Flow.{Flow}
use Rattle.store_cells.specs.AccessWindows.{window_between}
use Rattle.store.specs.LeafSelection.{turn_bytes, bytes_behind, bytes_below}
use Rattle.store_cells.specs.RowPositions.{capped}
use Rattle.store_cells.specs.ScalarTypes as table
use Rattle.store_cells.specs.Walks.{turns}
use Rattle.memory_model.specs.Memory.ScalarSizes.{class_bytes}
use Rattle.store_sound.proofs.operations.Classes.{class_above}
use Rattle.store_sound.proofs.operations.Walks.{turns_meet}
use Rattle.store_struct_leaves.specs.CopyPlaces.{any_below}
use Rattle.store_structs.specs.LeafNumbers.{struct_leaf}
use Rattle.store_structs.specs.PaddingWrites.{Padded, covered_by, covered_leaf, leaf_bytes, is_padded_in, has_padding_in, padding_meets, place_of, place_padded, meets_leaf}
use Rattle.struct_copies_sound.specs.Leaves.StructLeaves.{IsPlain, IsStruct}
use Rattle.struct_copies_sound.specs.Structs.StructTables.{IsListed}
use Rattle.transfer_exact.proofs.places.OneLeaf.{same_size, owned}
use Rattle.transfer_exact.specs.Spelling.TypedCopies.{IsAtStruct}

-- ---- the bytes of a leaf of one place

module _ (m : Model) (leaf : Leaf) (plain : IsPlain m leaf) (single : leaf.count ≡ 1) where
  abbrev size : ℕ
  size = table.class_bytes m leaf.class

  none_below : bytes_below m leaf leaf.offset ≡ 0
  none_below = cond-true (nat_le leaf.offset leaf.offset || leaf.stride == 0) 0 (bytes_behind m leaf (leaf.offset - leaf.offset)) (or_left _ _ (le-leb leaf.offset leaf.offset (omega arith)))

  all_below : bytes_below m leaf (leaf.offset + size) ≡ size
  all_below =
      let above = class_above m leaf.class in
      let same = same_size m leaf.class in
      let fits = plain.fits in
      let near = plain.near in
      let once : leaf.count * leaf.stride ≡ 1 * leaf.stride = ap (λ z. z * leaf.stride) single in
      let some : 0 < leaf.stride = omega (arith, above, fits) in
      let z : (leaf.stride == 0) ≡ false = ne_eqb leaf.stride 0 (λ (e : leaf.stride ≡ 0). omega (arith, some, e)) in
      let d : (leaf.offset + size) - leaf.offset ≡ size = omega arith in
      cond-false (nat_le (leaf.offset + size) leaf.offset || leaf.stride == 0) 0 (bytes_behind m leaf ((leaf.offset + size) - leaf.offset)) (or_from _ _ (lt-leb (leaf.offset + size) leaf.offset (omega (arith, above, same))) z)
      ∙ (ap (bytes_behind m leaf) d ∙ elim (cases_lt size leaf.stride) [
        | inl w ↦ (let below : size / leaf.stride < 1 = div_below size leaf.stride 1 some (omega (arith, w)) in
            let q : size / leaf.stride ≡ 0 = omega (arith, below) in
            let whole = div-add-mod' size leaf.stride in
            let t : size / leaf.stride * leaf.stride ≡ 0 * leaf.stride = ap (λ z. z * leaf.stride) q in
            let r : size % leaf.stride ≡ size = omega (arith, whole, t) in
            cond-true (nat_lt (size / leaf.stride) leaf.count) (turn_bytes size (size / leaf.stride) (size % leaf.stride)) (capped (leaf.count * size)) (lt-ltb _ _ (omega (arith, q, single)))
            ∙ ((λ i. turn_bytes size (q i) (r i)) ∙ omega (arith, w, near, once)))
        | inr w ↦ (let e : size ≡ leaf.stride = omega (arith, w, fits, same) in
            let q : size / leaf.stride ≡ 1 = ap (λ z. z / leaf.stride) e ∙ div_self some in
            let times : leaf.count * size ≡ 1 * size = ap (λ z. z * size) single in
            cond-false (nat_lt (size / leaf.stride) leaf.count) (turn_bytes size (size / leaf.stride) (size % leaf.stride)) (capped (leaf.count * size)) (le-ltb _ _ (omega (arith, q, single)))
            ∙ omega (arith, times, e, near, once))
      ])

-- ---- the struct in an object

module _ (flow : Flow) (index : ℕ) (view : StructView) (listed : IsListed flow.model (structs_view flow.structs) index view) (base : BaseInfo) (start : ℕ) (there : IsAtStruct flow index view base start) (near : start + view.size < 2 ^ 63)
    (h : IsStruct flow.model base.shape.cells base.size) (single : (j : ℕ) (leaf : Leaf) → slice_get base.shape.cells j ≡ Some leaf → leaf.count ≡ 1) where
  abbrev pub padded : Padded
  padded = record { structs = structs_view flow.structs; pointer = flow.model.pointer; index = index; size = view.size; leaves = view.leaves; start = window_between start start }

  abbrev leaves : List Leaf
  leaves = leaves_of (structs_view flow.structs) flow.model.pointer (Struct index)

  -- the bytes of a leaf of the struct are counted where they lie in a window
  counted : (number lo end : ℕ) (leaf : Leaf) → slice_get leaves number ≡ Some leaf → leaf.count ≡ 1 → lo ≡ leaf.offset → end ≡ leaf.offset + table.class_bytes flow.model leaf.class → table.class_bytes flow.model leaf.class ≤ turns (covered_leaf flow.model padded lo end) view.leaves 0
  counted number lo end leaf e once from to =
      let plain = listed.struct.plain number leaf e in
      let none = none_below flow.model leaf plain once in
      let all = all_below flow.model leaf plain once in
      let below : bytes_below flow.model leaf lo ≡ 0 = ap (bytes_below flow.model leaf) from ∙ none in
      let above : bytes_below flow.model leaf end ≡ table.class_bytes flow.model leaf.class = ap (bytes_below flow.model leaf) to ∙ all in
      let fits = plain.fits in
      let short = plain.near in
      let same = same_size flow.model leaf.class in
      let stride : leaf.count * leaf.stride ≡ 1 * leaf.stride = ap (λ z. z * leaf.stride) once in
      let few : number < view.leaves = let c = listed.counted in let w = slice_get_within leaves number leaf e in omega (arith, c, w) in
      let is : struct_leaf (structs_view flow.structs) flow.model.pointer index number ≡ Some leaf = sym (listed.numbered number) ∙ e in
      turns_meet (λ c. table.class_bytes flow.model leaf.class ≤ c) (covered_leaf flow.model padded lo end)
      (λ at c g. by_leaf (struct_leaf (structs_view flow.structs) flow.model.pointer index at) c (omega (arith, fits, short, same, stride)) g) view.leaves 0 number few
      (λ c. subst (λ z. table.class_bytes flow.model leaf.class ≤ covered_by flow.model lo end z c) (sym is) (omega (arith, below, above, fits, short, same, stride)))
    where
      by_leaf : (o : Option Leaf) (c : ℕ) → table.class_bytes flow.model leaf.class ≤ 2 ^ 30 → table.class_bytes flow.model leaf.class ≤ c → table.class_bytes flow.model leaf.class ≤ covered_by flow.model lo end o c
      by_leaf None c small g = g
      by_leaf (Some x) c small g = omega (arith, small, g)

  not_padded : (number lo hi : ℕ) (leaf : Leaf) → slice_get leaves number ≡ Some leaf → leaf.count ≡ 1 → lo ≡ leaf.offset → hi + 1 ≡ leaf.offset + table.class_bytes flow.model leaf.class → hi < 2 ^ 63 → is_padded_in flow.model padded (window_between lo hi) ≡ false
  unfolding leaf_bytes
  not_padded number lo hi leaf e once from to small =
      let end : capped (hi + 1) ≡ leaf.offset + table.class_bytes flow.model leaf.class = omega (arith, to, small) in
      let c = counted number lo (capped (hi + 1)) leaf e once from end in
      let above = class_above flow.model leaf.class in
      let same = same_size flow.model leaf.class in
      let none : nat_lt (turns (covered_leaf flow.model padded lo (capped (hi + 1))) view.leaves 0) (capped ((hi - lo) + 1)) ≡ false = le-ltb _ _ (omega (arith, c, from, to, small, above, same)) in
      and_no (not (view.size == 0)) _ none
    where
      and_no : (x y : Bool) → y ≡ false → (x && y) ≡ false
      and_no true y g = g
      and_no false y g = refl

  module _ (j : ℕ) (own : Leaf) (at : slice_get base.shape.cells j ≡ Some own) where
    abbrev bytes : ℕ
    bytes = table.class_bytes flow.model own.class

    own_near : own.offset + class_bytes flow.model own.class ≤ 2 ^ 31
    own_near =
        let p = h.plain j own at in
        let above = class_above flow.model own.class in
        let inside = h.inside j own.offset 0 own at (owned flow.model base.shape.cells base.size h single j own.offset 0 own at (omega arith) above) in
        let small = h.small in
        let fits = p.fits in
        let short = p.near in
        let once = single j own at in
        let stride : own.count * own.stride ≡ 1 * own.stride = ap (λ z. z * own.stride) once in
        omega (arith, inside, small, fits, short, stride)

    -- a leaf with a byte in the struct is one of the struct's
    in_struct : (lo hi : ℕ) → lo ≡ max (own.offset - start) 0 → hi ≡ min ((own.offset + (bytes - 1)) - start) (view.size - 1) → start ≤ own.offset + (bytes - 1) → lo ≤ hi → 0 < view.size → is_padded_in flow.model padded (window_between lo hi) ≡ false
    in_struct lo hi from to reaches order some =
        let x : ℕ = max own.offset start in
        let same = same_size flow.model own.class in
        let above = class_above flow.model own.class in
        let s = there.only j x (x - own.offset) own at (omega arith) (omega (arith, from, to, order, some))
        (owned flow.model base.shape.cells base.size h single j x (x - own.offset) own at (omega arith) (omega (arith, reaches, same, above))) in
        let offset = s.same.there in
        let class : table.class_bytes flow.model s.leaf.class ≡ bytes = ap (table.class_bytes flow.model) (sym s.same.class) in
        let leaf_same = same_size flow.model s.leaf.class in
        let once = s.same.alone in
        let inside = listed.struct.inside s.number (s.leaf.offset + (class_bytes flow.model s.leaf.class - 1)) (class_bytes flow.model s.leaf.class - 1) s.leaf s.among
        (record { start = s.leaf.offset; place = record { turn = 0; few = omega (arith, once); there = omega arith }; there = omega arith; small = let a = class_above flow.model s.leaf.class in omega (arith, a) }) in
        let small = listed.struct.small in
        not_padded s.number lo hi s.leaf s.among once (omega (arith, from, offset)) (omega (arith, to, offset, class, leaf_same, inside, above, same)) (omega (arith, to, small))

    met_none : (lo hi : ℕ) → lo ≡ own.offset - start → hi ≡ (own.offset + (bytes - 1)) - start → start ≤ own.offset + (bytes - 1) → has_padding_in flow.model padded (window_between lo hi) ≡ false
    unfolding has_padding_in
    met_none lo hi from to reaches = elim (cases_Bool (nat_le (max lo 0) (min hi (view.size - 1)))) [
      | inr none ↦ rw none refl
      | inl some ↦ (let order = leb-true _ _ some in
          rw some (elim (cases_lt 0 view.size) [
            | inr g ↦ (let empty : view.size ≡ 0 = omega (arith, g) in let z : (view.size == 0) ≡ true = ap (λ z. z == 0) empty in rw z refl)
            | inl g ↦ in_struct (max lo 0) (min hi (view.size - 1)) (omega (arith, from)) (omega (arith, to)) reaches order g
          ]))
    ]

    pub none_met : meets_leaf flow.model padded own ≡ false
    unfolding meets_leaf padding_meets
    none_met =
        let k = own_near in
        let same = same_size flow.model own.class in
        let zero : 0 * own.stride ≡ 0 = omega arith in
        let place : place_of own 0 ≡ own.offset = omega (arith, zero, k) in
        let last : capped (own.offset + (bytes - 1)) ≡ own.offset + (bytes - 1) = omega (arith, k, same) in
        ap (any_below (place_padded flow.model padded own)) (single j own at)
        ∙ ((λ i. padding_meets flow.model padded (place i) (capped (place i + (bytes - 1))))
        ∙ (ap (padding_meets flow.model padded own.offset) last ∙ elim (cases_lt (own.offset + (bytes - 1)) start) [
          | inl g ↦ cond-true (nat_lt (own.offset + (bytes - 1)) start) false (has_padding_in flow.model padded (window_between (own.offset - start) ((own.offset + (bytes - 1)) - start))) (lt-ltb _ _ g)
          | inr g ↦ cond-false (nat_lt (own.offset + (bytes - 1)) start) false (has_padding_in flow.model padded (window_between (own.offset - start) ((own.offset + (bytes - 1)) - start))) (le-ltb _ _ g)
              ∙ met_none (own.offset - start) ((own.offset + (bytes - 1)) - start) refl refl g
        ]))

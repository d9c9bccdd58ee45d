-- The leaf at one offset, where each leaf is one place and no byte is of two leaves.
use Rattle.std.proofs.Common.{◌≡◌, ℕ, suc, ◌+◌, ◌-◌, ◌*◌, ◌/◌, ◌%◌, ◌<◌, ◌≤◌, true, false, not, ◌||◌, Some, List, arith, subst, sym, refl, ap, ◌∙◌, inl, inr}
use Rattle.std.specs.Prelude.{slice_get, nat_le, nat_lt, ◌==◌}
use Rattle.std.proofs.lemmas.Bool.{cases_Bool, cases_lt, and_parts, and_from, leb-true, ltb-true, lt-ltb, le-ltb, le-leb, lt-leb, ne_eqb, or_left, cond-true, cond-false, or_from, true≢false}
use Rattle.std.proofs.lemmas.Nat.{div-add-mod', div_below}
use Rattle.std.proofs.lemmas.Option.{same_Some}
use Rattle.c_layout.specs.declared.data_model.Model.{Model}
use Rattle.c_layout.specs.declared.leaf_lists.Class.{Class}
use Rattle.c_layout.specs.declared.leaf_lists.Class.TheVariants.{Char, Short, Int, Long, LongLong, Pointer}
use Rattle.c_layout.specs.declared.leaf_lists.Leaf.{Leaf}
use Rattle.store_cells.specs.declared.access_windows.Window.{Window}
use Rattle.store_cells.specs.ScalarTypes as table
use Rattle.store_cells.specs.ClassNumbers.{same_class}
use Rattle.store_cells.specs.AccessWindows.{window_between}
use Rattle.store_cells.specs.RowPositions.{capped}
use Rattle.store.specs.LeafSelection.{has_place_in, is_selected, is_overlapped, is_other, turn_bytes, bytes_behind, bytes_below, covered_more, covered_bytes, window_end, meets_padding}
use Rattle.memory_model.specs.Memory.ScalarSizes.{class_bytes}
use Rattle.store_sound.specs.Concretization.Places.{IsPlaceOf, OwnedByLeaf}
use Rattle.store_sound.proofs.operations.Classes.{class_above, is_same_class}
use Rattle.store_sound.proofs.operations.Selected.{place_selected, single_in}
use Rattle.store_sound.proofs.operations.Walks.{walk_meets}
use Rattle.struct_copies_sound.specs.Leaves.StructLeaves.{IsStruct}

pub same_size : (m : Model) (c : Class) → table.class_bytes m c ≡ class_bytes m c
same_size m Char = refl
same_size m Short = refl
same_size m Int = refl
same_size m Long = refl
same_size m LongLong = refl
same_size m Pointer = refl

module _ (m : Model) (leaves : List Leaf) (size : ℕ) (h : IsStruct m leaves size) (single : (j : ℕ) (leaf : Leaf) → slice_get leaves j ≡ Some leaf → leaf.count ≡ 1) where
  -- a byte of the one place of a leaf
  pub owned : (j x k : ℕ) (leaf : Leaf) → slice_get leaves j ≡ Some leaf → x ≡ leaf.offset + k → k < class_bytes m leaf.class → OwnedByLeaf m leaf x k
  owned j x k leaf e at small = let c = single j leaf e in record { start = leaf.offset; place = record { turn = 0; few = omega (arith, c); there = omega arith }; there = at; small = small }

  -- the one place of a leaf is that of its offset
  pub place_is : (j x : ℕ) (leaf : Leaf) → slice_get leaves j ≡ Some leaf → IsPlaceOf leaf x → x ≡ leaf.offset
  place_is j x leaf e p =
      let c = single j leaf e in
      let few = p.few in
      let there = p.there in
      let t : p.turn ≡ 0 = omega (arith, c, few) in
      let z : leaf.stride * p.turn ≡ leaf.stride * 0 = ap (λ z. leaf.stride * z) t in
      omega (arith, there, z)

  module _ (j : ℕ) (leaf : Leaf) (at : slice_get leaves j ≡ Some leaf) where
    abbrev pub here : Window
    here = window_between leaf.offset leaf.offset

    stride : 0 < leaf.stride
    stride = let p = (h.plain j leaf at).fits in let a = class_above m leaf.class in omega (arith, p, a)

    pub own_selected : is_selected leaf leaf.class here ≡ true
    own_selected =
        let c = single j leaf at in
        and_from _ _ (is_same_class leaf.class leaf.class refl) (place_selected leaf here leaf.offset (record { turn = 0; few = omega (arith, c); there = omega arith }) stride (omega arith) (omega arith))

    starts_here : (i : ℕ) (other : Leaf) → slice_get leaves i ≡ Some other → has_place_in other here ≡ true → other.offset ≡ leaf.offset
    starts_here i other e g =
        let p = single_in other here (single i other e) (omega arith) g in
        let q = and_parts (nat_le leaf.offset other.offset) (nat_lt other.offset (leaf.offset + suc (leaf.offset - leaf.offset))) p in
        let a = leb-true _ _ q.0 in
        let b = ltb-true _ _ q.1 in
        omega (arith, a, b)

    pub other_unselected : (i : ℕ) (other : Leaf) → slice_get leaves i ≡ Some other → (i ≡ j → ⊥) → is_selected other leaf.class here ≡ false
    other_unselected i other e n = elim (cases_Bool (is_selected other leaf.class here)) [
      | inr g ↦ g
      | inl g ↦ (let p = and_parts (same_class other.class leaf.class) (has_place_in other here) g in
          let o = starts_here i other e p.1 in
          let a = class_above m other.class in
          let b = class_above m leaf.class in
          absurd (n (h.one i j leaf.offset 0 0 other leaf e at (owned i leaf.offset 0 other e (omega (arith, o)) a) (owned j leaf.offset 0 leaf at (omega arith) b))))
    ]

    -- no byte of a leaf of another class than char lies where a character is
    pub none_other : leaf.class ≡ Char → (i : ℕ) (other : Leaf) → slice_get leaves i ≡ Some other → is_other m other here ≡ false
    none_other char i other e = elim (cases_Bool (is_other m other here)) [
      | inr g ↦ g
      | inl g ↦ (let p = and_parts (not (same_class other.class Char)) (is_overlapped m other here) g in
          let s = same_size m other.class in
          let back : ℕ = leaf.offset - (table.class_bytes m other.class - 1) in
          let q = and_parts (nat_le back other.offset) (nat_lt other.offset (back + suc (leaf.offset - back))) (single_in other (window_between back leaf.offset) (single i other e) (omega arith) p.1) in
          let a = leb-true _ _ q.0 in
          let b = ltb-true _ _ q.1 in
          let above = class_above m other.class in
          let own = class_above m leaf.class in
          let k : i ≡ j = h.one i j leaf.offset (leaf.offset - other.offset) 0 other leaf e at (owned i leaf.offset (leaf.offset - other.offset) other e (omega (arith, a, b)) (omega (arith, a, b, s, above))) (owned j leaf.offset 0 leaf at (omega arith) own) in
          let same : other ≡ leaf = same_Some other leaf (sym e ∙ (ap (slice_get leaves) k ∙ at)) in
          let c : same_class other.class Char ≡ true = is_same_class other.class Char (ap (λ z. z.class) same ∙ char) in
          absurd (true≢false (sym p.0 ∙ ap not c)))
    ]

    one_byte : leaf.class ≡ Char → bytes_below m leaf (leaf.offset + 1) ≡ 1
    one_byte char =
        let c = single j leaf at in
        let p = stride in
        let s : table.class_bytes m leaf.class ≡ 1 = ap (table.class_bytes m) char in
        let z : (leaf.stride == 0) ≡ false = ne_eqb leaf.stride 0 (λ (e : leaf.stride ≡ 0). omega (arith, p, e)) in
        let d : (leaf.offset + 1) - leaf.offset ≡ 1 = omega arith in
        cond-false (nat_le (leaf.offset + 1) leaf.offset || leaf.stride == 0) 0 (bytes_behind m leaf ((leaf.offset + 1) - leaf.offset)) (or_from _ _ (lt-leb (leaf.offset + 1) leaf.offset (omega arith)) z)
        ∙ (ap (bytes_behind m leaf) d ∙ elim (cases_lt 1 leaf.stride) [
          | inl w ↦ (let below : 1 / leaf.stride < 1 = div_below 1 leaf.stride 1 p (omega (arith, w)) in
              let q : 1 / leaf.stride ≡ 0 = omega (arith, below) in
              let whole = div-add-mod' 1 leaf.stride in
              let t : 1 / leaf.stride * leaf.stride ≡ 0 * leaf.stride = ap (λ z. z * leaf.stride) q in
              let r : 1 % leaf.stride ≡ 1 = omega (arith, whole, t) in
              cond-true (nat_lt (1 / leaf.stride) leaf.count) (turn_bytes (table.class_bytes m leaf.class) (1 / leaf.stride) (1 % leaf.stride)) (capped (leaf.count * table.class_bytes m leaf.class)) (lt-ltb _ _ (omega (arith, q, c)))
              ∙ (λ i. turn_bytes (s i) (q i) (r i)))
          | inr w ↦ (let e : leaf.stride ≡ 1 = omega (arith, w, p) in
              let q : 1 / leaf.stride ≡ 1 = ap (λ z. 1 / z) e in
              cond-false (nat_lt (1 / leaf.stride) leaf.count) (turn_bytes (table.class_bytes m leaf.class) (1 / leaf.stride) (1 % leaf.stride)) (capped (leaf.count * table.class_bytes m leaf.class)) (le-ltb _ _ (omega (arith, q, c)))
              ∙ (λ i. capped (c i * s i)))
        ])

    covers : leaf.class ≡ Char → 1 ≤ covered_bytes m leaves leaf.offset (leaf.offset + 1)
    covers char =
        let one = one_byte char in
        let none : bytes_below m leaf leaf.offset ≡ 0 = cond-true (nat_le leaf.offset leaf.offset || leaf.stride == 0) 0 (bytes_behind m leaf (leaf.offset - leaf.offset)) (or_left _ _ (le-leb leaf.offset leaf.offset (omega arith))) in
        walk_meets (λ s. 1 ≤ s) (covered_more m leaf.offset (leaf.offset + 1)) (λ k i s g. omega (arith, g)) 0 leaves 0 j j leaf at (omega arith) (λ t. omega (arith, one, none))

    pub no_padding : leaf.class ≡ Char → (room : ℕ) → meets_padding m leaves here room ≡ false
    no_padding char room = elim (cases_lt leaf.offset room) [
      | inr g ↦ rw (le-ltb leaf.offset room g) refl
      | inl g ↦ (let end : window_end here room ≡ leaf.offset + 1 = omega (arith, g) in
          let c = covers char in
          let f : nat_lt (covered_bytes m leaves leaf.offset (leaf.offset + 1)) ((leaf.offset + 1) - leaf.offset) ≡ false = le-ltb _ _ (omega (arith, c)) in
          rw (lt-ltb leaf.offset room g) (subst (λ z. nat_lt (covered_bytes m leaves leaf.offset z) (z - leaf.offset) ≡ false) (sym end) f))
    ]

-- The padding of a copied struct, in rising rows.
use Rattle.std.specs.Prelude.{◌≡◌, ℕ, zero, suc, ◌+◌, ◌-◌, ◌^◌, ◌<◌, ◌≤◌, ◌==◌, min, max, ℤ, nat_lt, nat_le, Bool, true, false, cond, not, Option, Some, None, List, length, refl}
use Rattle.std.proofs.Common.{arith, sym, subst, ap, ◌∙◌}
use Rattle.std.proofs.lemmas.Bool.{and_parts, and_from, leb-true, le-leb, ltb-true, lt-ltb, le-ltb, ltb-false}
use Rattle.cc_base.specs.Lattices.{LatticeOf, OrderLaws}
use Rattle.cc_base.specs.IntegerDomains.{IntegersOf, BoundLaws}
use Rattle.c_layout.specs.StructViews.{StructView}
use Rattle.c_layout.specs.declared.data_model.Model.{Model}
use Rattle.c_layout.specs.declared.leaf_lists.Class.{Class}
use Rattle.c_layout.specs.declared.leaf_lists.Leaf.{Leaf}
use Rattle.c_layout.specs.declared.shapes.BaseInfo.{BaseInfo}
use Rattle.pointer_domain.specs.declared.base_sets.Bases.{Bases}
use Rattle.value_domain.specs.declared.values.row_cells.Cell.{Cell}
use Rattle.value_domain.specs.declared.values.row_cells.Cell.TheVariants.{Value}
use Rattle.value_domain.specs.Values.LabelSets.{all_labels, labels_order}
use Rattle.value_domain.specs.Values.Values.{value_order}
use Rattle.domain_theorems.specs.Values.Consistency.{AreWords}
use Rattle.domain_theorems.proofs.values.Parts.{value_below}
use Rattle.store_cells.specs.declared.access_windows.Window.{Window}
use Rattle.store_cells.specs.AccessWindows.{window_between, window_met}
use Rattle.store_cells.specs.CellReads.{whole_range}
use Rattle.store_cells.specs.ClassNumbers.{class_at, is_pointer}
use Rattle.store_cells.specs.FirstZeroWrites.{last_of, any_zero}
use Rattle.store.specs.LeafSelection.{bytes_below}
use Rattle.store_cells.specs.RowPositions.{capped, cell_at, leaf_position, class_position, zero_position, join_value}
use Rattle.store_cells.specs.ScalarTypes.{class_bytes, kind_of}
use Rattle.store_cells.specs.Walks.{turns}
use Rattle.store_monotone.specs.Operations.Placements.{WindowWithin, IsPlaced}
use Rattle.store_monotone.specs.Operations.TopCells.{top_number, top_value}
use Rattle.store_monotone.proofs.operations.CellReads.{labels_top}
use Rattle.store_monotone.proofs.operations.PairedSteps.{Step, walk_step, turns_step, then_step, same_step, numbers_below}
use Rattle.store_structs.specs.LeafNumbers.{struct_leaf}
use Rattle.store_structs.specs.PaddingWrites.{Padded, covered_by, covered_leaf, leaf_bytes, is_padded_in, padded_met, has_padding_in, padding_meets, place_of, place_padded, meets_leaf, unknown_pointer, unknown_value, pad_leaf_at, pad_leaf, pad_leaves, pad_class, pad_classes, pad_part_at, pad_part, pad_zeros, pad_cells, write_padding}
use Rattle.store_monotone.proofs.structs.Places.{any_more}
use Rattle.transfer_monotone.specs.Values.RisingRows.{ValuesRise, RowsRise}
use Rattle.transfer_monotone.proofs.values.Results.{null_rises}
use Rattle.system_monotone.proofs.library_writes.WrittenCells.{join_rises, zero_rises}
use Rattle.store_monotone.specs.Structs.SpreadStructs.{padded_in, IsSpread}
use Rattle.system_monotone.proofs.struct_copies.CopiedValues.{even_of, whole_rises}
use Rattle.system_monotone.proofs.struct_copies.CopiedZeros.{forget_step}

-- ---- bytes of leaves

saturated : (c d f x y z : ℕ) → c ≤ d + f → capped (c + (z - x)) ≤ capped (d + (y - x)) + capped (f + (z - y))
saturated c d f x y z h = omega arith

module _ (m : Model) (p : Padded) where
  -- how many bytes of leaves lie from an offset to before another one
  abbrev bytes_in : ℕ → ℕ → ℕ
  bytes_in a e = turns (covered_leaf m p a e) p.leaves 0

  split_by : (a b e : ℕ) (leaf : Option Leaf) (c d f : ℕ) → c ≤ d + f → covered_by m a e leaf c ≤ covered_by m a b leaf d + covered_by m b e leaf f
  split_by a b e None c d f h = h
  split_by a b e (Some leaf) c d f h = saturated c d f (bytes_below m leaf a) (bytes_below m leaf b) (bytes_below m leaf e) h

  split_turns : (a b e count : ℕ) → turns (covered_leaf m p a e) count 0 ≤ turns (covered_leaf m p a b) count 0 + turns (covered_leaf m p b e) count 0
  split_turns a b e zero = omega arith
  split_turns a b e (suc count) = split_by a b e (struct_leaf p.structs p.pointer p.index count) _ _ _ (split_turns a b e count)

  none_by : (a : ℕ) (leaf : Option Leaf) (c : ℕ) → c ≡ 0 → covered_by m a a leaf c ≡ 0
  none_by a None c h = h
  none_by a (Some leaf) c h = omega arith

  none_in : (a count : ℕ) → turns (covered_leaf m p a a) count 0 ≡ 0
  none_in a zero = refl
  none_in a (suc count) = none_by a (struct_leaf p.structs p.pointer p.index count) _ (none_in a count)

  module _ (one : (x : ℕ) → x < 2 ^ 63 → leaf_bytes m p (window_between x x) ≤ 1) where
    one_byte : (x : ℕ) → x < 2 ^ 63 → bytes_in x (x + 1) ≤ 1
    unfolding leaf_bytes
    one_byte x h = let e : capped (x + 1) ≡ x + 1 = omega arith in subst (λ z. turns (covered_leaf m p x z) p.leaves 0 ≤ 1) e (one x h)

    few_from : (k a : ℕ) → a + k < 2 ^ 63 → bytes_in a (a + k) ≤ k
    few_from zero a h = let e : a + 0 ≡ a = omega arith in subst (λ z. bytes_in a z ≤ 0) (sym e) (let f = none_in a p.leaves in omega arith)
    few_from (suc k) a h =
        let s = split_turns a (a + k) ((a + k) + 1) p.leaves in
        let r = few_from k a (omega arith) in
        let x = one_byte (a + k) (omega arith) in
        let e : a + suc k ≡ (a + k) + 1 = omega arith in
        subst (λ z. bytes_in a z ≤ suc k) (sym e) (omega arith)

    few : (a e : ℕ) → a ≤ e → e < 2 ^ 63 → bytes_in a e ≤ e - a
    few a e h k = let f : a + (e - a) ≡ e = omega arith in subst (λ z. bytes_in a z ≤ e - a) f (few_from (e - a) a (omega arith))

    -- where a byte of a window is padding, so is one of a larger window
    padded_more : (w u : Window) → u.lo ≤ w.lo → w.lo ≤ w.hi → w.hi ≤ u.hi → u.hi ≤ 2 ^ 62 → is_padded_in m p w ≡ true → is_padded_in m p u ≡ true
    unfolding leaf_bytes
    padded_more w u a b c d e =
        let q = and_parts (not (p.size == 0)) (nat_lt (leaf_bytes m p w) (capped ((w.hi - w.lo) + 1))) e in
        let x = ltb-true (leaf_bytes m p w) (capped ((w.hi - w.lo) + 1)) q.1 in
        let f : capped (w.hi + 1) ≡ w.hi + 1 = omega arith in
        let g : capped (u.hi + 1) ≡ u.hi + 1 = omega arith in
        let i : bytes_in w.lo (capped (w.hi + 1)) ≡ bytes_in w.lo (w.hi + 1) = ap (λ z. bytes_in w.lo z) f in
        let j : bytes_in u.lo (capped (u.hi + 1)) ≡ bytes_in u.lo (u.hi + 1) = ap (λ z. bytes_in u.lo z) g in
        let s = split_turns u.lo w.lo (u.hi + 1) p.leaves in
        let t = split_turns w.lo (w.hi + 1) (u.hi + 1) p.leaves in
        let y = few u.lo w.lo a (omega arith) in
        let z = few (w.hi + 1) (u.hi + 1) (omega arith) (omega arith) in
        and_from _ _ q.0 (lt-ltb (leaf_bytes m p u) (capped ((u.hi - u.lo) + 1)) (omega arith))

    -- windows of offsets from the struct's start
    in_more : p.size ≤ 2 ^ 62 → (a b c d : ℕ) → c ≤ a → b ≤ d → has_padding_in m p (window_between a b) ≡ true → has_padding_in m p (window_between c d) ≡ true
    unfolding has_padding_in
    in_more size a b c d h k e = by_met (nat_le (max a 0) (min b (p.size - 1))) refl e
      where
        by_met : (t : Bool) → nat_le (max a 0) (min b (p.size - 1)) ≡ t → padded_met m p (cond t (Some (window_between (max a 0) (min b (p.size - 1)))) None) ≡ true → padded_met m p (window_met (window_between c d) 0 (p.size - 1)) ≡ true
        by_met false f g = absurd (let z : ⊥ = cc in z)
        by_met true f g =
            let le = leb-true (max a 0) (min b (p.size - 1)) f in
            let more : nat_le (max c 0) (min d (p.size - 1)) ≡ true = le-leb (max c 0) (min d (p.size - 1)) (omega arith) in
            subst (λ t. padded_met m p (cond t (Some (window_between (max c 0) (min d (p.size - 1)))) None) ≡ true) (sym more)
            (padded_more (window_between (max a 0) (min b (p.size - 1))) (window_between (max c 0) (min d (p.size - 1))) (omega arith) le (omega arith) (omega arith) g)

module _ (m : Model) (structs : List StructView) (index : ℕ) (v : StructView) (k : IsSpread m structs index v) (w u : Window) (i : WindowWithin w u) where
  abbrev small : Padded
  small = padded_in structs m.pointer index v w

  abbrev large : Padded
  large = padded_in structs m.pointer index v u

  same_padding : (x : Window) → has_padding_in m small x ≡ has_padding_in m large x
  unfolding has_padding_in leaf_bytes
  same_padding x = refl

  -- a byte of padding may stand at more bytes
  meets_more : (lo hi : ℕ) → padding_meets m small lo hi ≡ true → padding_meets m large lo hi ≡ true
  unfolding padding_meets
  meets_more lo hi = by_test (nat_lt hi w.lo) refl
    where
      by_test : (c : Bool) → nat_lt hi w.lo ≡ c → cond c false (has_padding_in m small (window_between (lo - w.hi) (hi - w.lo))) ≡ true → cond (nat_lt hi u.lo) false (has_padding_in m large (window_between (lo - u.hi) (hi - u.lo))) ≡ true
      by_test true e f = absurd (let z : ⊥ = cc in z)
      by_test false e f =
          let a = ltb-false hi w.lo e in
          let b = i.lo in let c = i.hi in let d = i.some in
          let g : nat_lt hi u.lo ≡ false = le-ltb hi u.lo (omega arith) in
          subst (λ t. cond t false (has_padding_in m large (window_between (lo - u.hi) (hi - u.lo))) ≡ true) (sym g)
          (in_more m large (k.bytes u) k.size (lo - w.hi) (hi - w.lo) (lo - u.hi) (hi - u.lo) (omega arith) (omega arith) (sym (same_padding (window_between (lo - w.hi) (hi - w.lo))) ∙ f))

  leaf_more : (leaf : Leaf) → meets_leaf m small leaf ≡ true → meets_leaf m large leaf ≡ true
  unfolding meets_leaf
  leaf_more leaf = any_more (place_padded m small leaf) (place_padded m large leaf) leaf.count (λ n l. meets_more (place_of leaf n) (capped (place_of leaf n + (class_bytes m leaf.class - 1))))

  module _ {I : Type 0} {l : LatticeOf I} {n : IntegersOf I} {stands : I → ℤ → Type 0} (o : OrderLaws l) (b : BoundLaws l n stands) (all : Bases) (words : AreWords all) (top : List (Cell I)) where
    unknown_rises : (class : Class) (signed : Bool) → ValuesRise l n all (unknown_value l n m class signed) (unknown_value l n m class signed)
    unknown_rises class signed = by_class (is_pointer class)
      where
        by_class : (q : Bool) → ValuesRise l n all (cond q (unknown_pointer l) (whole_range l n (kind_of m class signed) all_labels true)) (cond q (unknown_pointer l) (whole_range l n (kind_of m class signed) all_labels true))
        by_class true =
            let e = null_rises o b all in
            record {
              below = (value_order o).reflexive (unknown_pointer l);
              own = value_below l (unknown_pointer l) (top_value n all) (record { num = o.least_below (top_number n); pointer = e.own; indeterminate = refl; labels = labels_top all_labels });
              even = e.even;
            }
        by_class false = whole_rises o b all words m class signed all_labels all_labels true true (labels_order.reflexive all_labels) (λ e. e)

    -- a cell of which nothing is known any more, where it is met
    join_step : (at : ℕ) → cell_at top at ≡ Value (top_value n all) → (class : Class) (signed : Bool) (c d : Bool) → (c ≡ true → d ≡ true) → (on : Bool) → Step (RowsRise l n top) on (λ r. cond c (join_value l n r at (unknown_value l n m class signed)) r) (λ s. cond d (join_value l n s at (unknown_value l n m class signed)) s)
    join_step at e class signed c d a on r s j =
        let z = unknown_rises class signed in
        join_rises o b all top at e r s j (unknown_value l n m class signed) (unknown_value l n m class signed) z.below z.own (even_of o b all words (unknown_value l n m class signed) (unknown_value l n m class signed) z) on c d a

    module _ (base : BaseInfo) (p : IsPlaced n all top base) (on : Bool) where
      leaves_step : Step (RowsRise l n top) on (pad_leaves l n m base small) (pad_leaves l n m base large)
      unfolding pad_leaves pad_leaf_at
      leaves_step = walk_step (λ leaf at. at < length base.shape.cells) (RowsRise l n top) on (pad_leaf l n m base small) (pad_leaf l n m base large)
          (λ leaf at e. join_step (leaf_position base at) (p.leaf at e) leaf.class leaf.signed (meets_leaf m small leaf) (meets_leaf m large leaf) (leaf_more leaf) on)
          0 base.shape.cells (numbers_below (length base.shape.cells) 0 base.shape.cells (omega arith))

      classes_step : base.shape.heap ≡ true → Step (RowsRise l n top) on (pad_classes l n m base) (pad_classes l n m base)
      unfolding pad_classes pad_class
      classes_step heap = turns_step (RowsRise l n top) on (pad_class l n m base) (pad_class l n m base) 6
          (λ at e. join_step (class_position base at) (p.class at heap e) (class_at at) true true true (λ z. z) on) 6 (omega arith)

      cells_step : Step (RowsRise l n top) on (pad_cells l n m base small) (pad_cells l n m base large)
      unfolding pad_cells
      cells_step = same_step (RowsRise l n top) on base.shape.heap (λ r. pad_classes l n m base (pad_leaves l n m base small r)) (λ r. pad_classes l n m base (pad_leaves l n m base large r)) (pad_leaves l n m base small) (pad_leaves l n m base large)
          (λ e. then_step (RowsRise l n top) on (pad_leaves l n m base small) (pad_leaves l n m base large) (pad_classes l n m base) (pad_classes l n m base) leaves_step (classes_step e))
          (λ e. leaves_step)

      zeros_step : Step (RowsRise l n top) on (pad_zeros l n m base small) (pad_zeros l n m base large)
      unfolding pad_zeros pad_part_at
      zeros_step = walk_step (λ part at. at < length base.shape.zeros) (RowsRise l n top) on (pad_part l n m base small) (pad_part l n m base large)
          (λ part at e r s j. zero_rises o b all top r s j (zero_position base at) (any_zero l n) on (padding_meets m small part.offset (last_of part.offset part.size)) _
          (forget_step o b all top r s (zero_position base at) (p.zero at e) j.below on (padding_meets m small part.offset (last_of part.offset part.size)) (padding_meets m large part.offset (last_of part.offset part.size)) (meets_more part.offset (last_of part.offset part.size))))
          0 base.shape.zeros (numbers_below (length base.shape.zeros) 0 base.shape.zeros (omega arith))

      pub padding_step : Step (RowsRise l n top) on (write_padding l n m base small) (write_padding l n m base large)
      unfolding write_padding
      padding_step = then_step (RowsRise l n top) on (pad_cells l n m base small) (pad_cells l n m base large) (pad_zeros l n m base small) (pad_zeros l n m base large) cells_step zeros_step

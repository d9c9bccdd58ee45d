-- Bytes that are set in larger rows leave larger rows.
use Rattle.std.specs.Prelude.{◌≡◌, ◌⊎◌, ℕ, ◌+◌, ◌≤◌, ◌<◌, ◌==◌, ℤ, pos, ◌≤ℤ◌, int_le, Bool, true, false, cond, ◌&&◌, Some, None, is_some, List, length, refl}
use Rattle.std.proofs.Common.{arith, sym, subst₂, inl, inr}
use Rattle.std.proofs.lemmas.Int.{ints}
use Rattle.std.proofs.lemmas.Bool.{and_parts, and_from, eqb-true, eq-eqb}
use Rattle.cc_base.specs.Lattices.{LatticeOf, OrderLaws}
use Rattle.cc_base.specs.IntegerDomains.{IntegersOf, BoundLaws}
use Rattle.cc_base.specs.NumberRanges.{Range}
use Rattle.c_layout.specs.declared.data_model.Model.{Model}
use Rattle.c_layout.specs.declared.leaf_lists.Class.TheVariants.{Char}
use Rattle.c_layout.specs.declared.leaf_lists.Leaf.{Leaf}
use Rattle.c_layout.specs.declared.shapes.BaseInfo.{BaseInfo}
use Rattle.c_layout.specs.declared.shapes.ZeroPart.{ZeroPart}
use Rattle.cfg.specs.declared.programs.Flow.{Flow}
use Rattle.pointer_domain.specs.declared.base_sets.Bases.{Bases}
use Rattle.value_domain.specs.Strings.FirstZeros.{the_end}
use Rattle.value_domain.specs.declared.strings.first_zeros.FirstZero.{FirstZero}
use Rattle.value_domain.specs.declared.values.values.Value as values
use Rattle.value_domain.specs.declared.values.row_cells.Cell.{Cell}
use Rattle.value_domain.specs.declared.values.row_cells.Cell.TheVariants.{Value}
use Rattle.value_domain.specs.Values.Values.{value_lattice}
use Rattle.domain_theorems.proofs.values.Flags.{Sets, and_sets}
use Rattle.domain_theorems.proofs.values.Ranges.{RangeBelow, bounds_monotone}
use Rattle.store_cells.specs.declared.access_windows.Window.{Window}
use Rattle.store_cells.specs.declared.first_zero_writes.ZeroTarget.{ZeroTarget}
use Rattle.store_cells.specs.AccessWindows.{last_offset}
use Rattle.store_cells.specs.ByteWrites.{byte_written}
use Rattle.store_cells.specs.ClassNumbers.{class_at}
use Rattle.store_cells.specs.FirstZeroWrites.{zero_target}
use Rattle.store.specs.LeafSelection.{is_overlapped, has_stray}
use Rattle.store_objects.specs.LiveBases.{has_base, is_one_instance}
use Rattle.store_cells.specs.RowPositions.{cell_at, leaf_position, class_position, zero_position, state_position, zero_at, put_zero, state_at, write_value}
use Rattle.store_cells.specs.Walks.{turns}
use Rattle.store_monotone.specs.Operations.Placements.{EachFrom, WindowWithin, IsPlaced, IsRegular}
use Rattle.store_monotone.specs.Operations.RowsBelow.{RowsBelow}
use Rattle.store_monotone.specs.Operations.TopCells.{top_value}
use Rattle.store_monotone.proofs.operations.Consistent.{IsEven}
use Rattle.store_monotone.proofs.operations.FirstZeros.{zero_at_monotone, zero_at_top}
use Rattle.store_monotone.proofs.operations.Freeing.{state_at_monotone}
use Rattle.store_monotone.proofs.operations.LiveSets.{has_monotone}
use Rattle.store_monotone.proofs.operations.PairedSteps.{Step, walk_step, turns_step, then_step, if_step, same_step, numbers_below}
use Rattle.store_monotone.proofs.operations.Windows.{overlapped_monotone}
use Rattle.store_monotone.proofs.operations.ZeroTargets.{TargetBelow, target_monotone}
use Rattle.transfer_library_writes.specs.declared.fill_writes.FillWrite.{FillWrite}
use Rattle.transfer_library_writes.specs.TextWrites.{is_whole, lies_in_array}
use Rattle.transfer_library_writes.specs.FillWrites.{is_covered, holds_whole, is_from_start, covered_value, fill_leaf, fill_leaf_of, fill_leaves, clears_instance, class_value, fill_stray, fill_class, fill_classes, fill_class_cells, zero_met_at, fill_zero, fill_zeros, fill_heap_part, fill_base, fill_base_if, fill_in, write_fill}
use Rattle.transfer_monotone.specs.Values.RisingRows.{RowsRise}
use Rattle.system_monotone.proofs.library_writes.AloneWrites.{made_alone}
use Rattle.system_monotone.proofs.library_writes.MetZeros.{Knows, known_step, met}
use Rattle.system_monotone.proofs.library_writes.WriteStarts.{target_some, lies_too, met_too, target_near, start_near}
use Rattle.system_monotone.proofs.library_writes.WrittenCells.{join_rises, write_rises, zero_rises}
use Rattle.system_monotone.proofs.library_writes.FillOrder.{IsWeak, FillStarts, FillBelow}
use Rattle.system_monotone.proofs.library_writes.FillValues.{value_monotone, value_top, value_even, covered_too, weak_covers}
use Rattle.system_monotone.proofs.library_writes.FillZeros.{is_known, known_in, zero_put, met_is, weak_knows, known_less, put_less, put_in}

module _ (w v : FillWrite) (on one two : Bool) where
  -- where the larger write is the only one to a cell, the smaller one is made and is so too
  record FillsAlone : Type 0 where
    starts : FillStarts w v
    alone : two ≡ true → (on ≡ true) × (one ≡ true)

  abbrev Begins : Type 0
  Begins = IsWeak v ⊎ FillsAlone

-- a write from the first byte on alone
start_less : (w v : Window) → WindowWithin w v → Sets (is_from_start v) (is_from_start w)
start_less w v h e =
    let p = and_parts (v.lo == 0) (v.hi == 0) e in
    let lo = eqb-true v.lo 0 p.0 in
    let hi = eqb-true v.hi 0 p.1 in
    let a = h.some in let c = h.hi in
    and_from (w.lo == 0) (w.hi == 0) (eq-eqb w.lo 0 (omega arith)) (eq-eqb w.hi 0 (omega arith))

whole_less : (a c : ℤ) → c ≤ℤ a → (x u : Range) → RangeBelow x u → Sets (holds_whole c u) (holds_whole a x)
whole_less a c h None u i e = refl
whole_less a c h (Some p) None i e = absurd i
whole_less a c h (Some p) (Some q) i e = less p.1 q.1 i.1 e
  where
    less : (x u : ℤ) → x ≤ℤ u → int_le u c ≡ true → int_le x a ≡ true
    less x u j e = grind (arith, ints)

module _ {I : Type 0} {l : LatticeOf I} {n : IntegersOf I} {stands : I → ℤ → Type 0} (o : OrderLaws l) (b : BoundLaws l n stands) (all : Bases) (top : List (Cell I)) where
  -- a cell that is covered or may be, where the smaller write may be left out
  module _ (i : ℕ) (e : cell_at top i ≡ Value (top_value n all)) (r s : List (Cell I)) (j : RowsRise l n top r s) (x more y larger : values.Value I) where
    set_rises : ((a c : Bool) → Sets c a → (value_lattice l).leq (cond a x more) (cond c y larger) ≡ true) → ((c : Bool) → (value_lattice l).leq (cond c y larger) (top_value n all) ≡ true) → ((a : Bool) → IsEven n (cond a x more).pointer)
        → (on p q a c : Bool) → Sets p q → (q ≡ true → c ≡ true → (on ≡ true) × (p ≡ true) × (a ≡ true))
        → RowsRise l n top (cond on (cond p (cond a (write_value l n r i x true) (write_value l n r i more false)) r) r) (cond q (cond c (write_value l n s i y true) (write_value l n s i larger false)) s)
    set_rises less tops even on p q true true m u = write_rises o b all top i e r s j x y (less true true (λ z. z)) (tops true) (even true) on p q true true m u
    set_rises less tops even on p q true false m u = write_rises o b all top i e r s j x larger (less true false (λ z. absurd (cc))) (tops false) (even true) on p q true false m (λ d f. absurd (cc))
    set_rises less tops even on p q false false m u = write_rises o b all top i e r s j more larger (less false false (λ z. z)) (tops false) (even false) on p q false false m (λ d f. absurd (cc))
    set_rises less tops even on p false false true m u = write_rises o b all top i e r s j more larger (less false false (λ z. z)) (tops false) (even false) on p false false false m (λ d f. absurd (cc))
    set_rises less tops even on p true false true m u = absurd (let z : false ≡ true = (u refl refl).2 in cc)

  -- ---- one base

  module _ (m : Model) (w v : FillWrite) (k : FillBelow w v) (base : BaseInfo) (p : IsPlaced n all top base) (q : IsRegular m base) (on one two : Bool) (begins : Begins w v on one two) where
    covers : (leaf : Leaf) → is_overlapped m leaf v.window ≡ true → is_covered m leaf v two ≡ true → (on ≡ true) × (is_overlapped m leaf w.window ≡ true) × (is_covered m leaf w one ≡ true)
    covers leaf reached covered = elim begins [
      | inl weak ↦ absurd (let z = weak_covers m leaf v two weak in cc)
      | inr c ↦ covered_too m leaf w v k c.starts on one two c.alone reached covered
    ]

    leaves_step : Step (RowsRise l n top) on (fill_leaves l n m base w one) (fill_leaves l n m base v two)
    unfolding fill_leaves fill_leaf_of fill_leaf
    leaves_step = walk_step (λ leaf at. at < length base.shape.cells) (RowsRise l n top) on (fill_leaf_of l n m base w one) (fill_leaf_of l n m base v two)
        (λ leaf at e r s j. set_rises (leaf_position base at) (p.leaf at e) r s j
        (covered_value l n m leaf.class leaf.signed w) (byte_written l n m leaf.class leaf.signed w.labels) (covered_value l n m leaf.class leaf.signed v) (byte_written l n m leaf.class leaf.signed v.labels)
        (λ a c z. value_monotone o b m leaf.class leaf.signed a c z w v k.zero k.labels) (λ c. value_top o b m leaf.class leaf.signed all c v) (λ a. value_even o b m leaf.class leaf.signed a w)
        on (is_overlapped m leaf w.window) (is_overlapped m leaf v.window) (is_covered m leaf w one) (is_covered m leaf v two) (overlapped_monotone m leaf w.window v.window k.window) (covers leaf))
        0 base.shape.cells (numbers_below (length base.shape.cells) 0 base.shape.cells (omega arith))

    -- ---- cells of classes

    module _ (a c : Bool) (cleared : Sets c a) where
      stray_step : base.shape.heap ≡ true → Step (RowsRise l n top) on (fill_stray l n m base w a) (fill_stray l n m base v c)
      stray_step heap r s j = join_rises o b all top (class_position base 0) (p.class 0 heap (omega arith)) r s j (class_value l n m Char w a) (class_value l n m Char v c)
          (value_monotone o b m Char true a c cleared w v k.zero k.labels) (value_top o b m Char true all c v) (value_even o b m Char true a w)
          on (has_stray base.shape.cells Char w.window) (has_stray base.shape.cells Char v.window) (q.stray Char w.window v.window k.window heap)

      class_step : base.shape.heap ≡ true → (at : ℕ) → at < 5 → Step (RowsRise l n top) on (fill_class l n m base w a at) (fill_class l n m base v c at)
      class_step heap at e r s j = join_rises o b all top (class_position base (at + 1)) (p.class (at + 1) heap (omega arith)) r s j (class_value l n m (class_at (at + 1)) w a) (class_value l n m (class_at (at + 1)) v c)
          (value_monotone o b m (class_at (at + 1)) true a c cleared w v k.zero k.labels) (value_top o b m (class_at (at + 1)) true all c v) (value_even o b m (class_at (at + 1)) true a w) on true true (λ z. z)

      classes_step : base.shape.heap ≡ true → Step (RowsRise l n top) on (fill_classes l n m base w a) (fill_classes l n m base v c)
      classes_step heap = then_step (RowsRise l n top) on (fill_stray l n m base w a) (fill_stray l n m base v c) (turns (fill_class l n m base w a) 5) (turns (fill_class l n m base v c) 5)
          (stray_step heap) (turns_step (RowsRise l n top) on (fill_class l n m base w a) (fill_class l n m base v c) 5 (λ at e. class_step heap at e) 5 (omega arith))

    -- an instance that the larger write clears
    clears : base.shape.heap ≡ true → (r s : List (Cell I)) → RowsRise l n top r s → Sets (clears_instance l n base s v) (clears_instance l n base r w)
    unfolding clears_instance
    clears heap r s j =
        let size = and_parts (l.leq (state_at l n r (state_position base)).size (state_at l n s (state_position base)).size) _ (state_at_monotone o b top r s (state_position base) j.below (p.state heap)) in
        and_sets (v.zero && is_from_start v.start) (holds_whole v.least (n.bounds (state_at l n s (state_position base)).size)) (w.zero && is_from_start w.start) (holds_whole w.least (n.bounds (state_at l n r (state_position base)).size))
        (and_sets v.zero (is_from_start v.start) w.zero (is_from_start w.start) k.zero (start_less w.start v.start k.start))
        (whole_less w.least v.least k.least (n.bounds (state_at l n r (state_position base)).size) (n.bounds (state_at l n s (state_position base)).size) (bounds_monotone b _ _ size.0))

    cells_step : base.shape.heap ≡ true → Step (RowsRise l n top) on (fill_class_cells l n m base w) (fill_class_cells l n m base v)
    unfolding fill_class_cells
    cells_step heap r s j = classes_step (clears_instance l n base r w) (clears_instance l n base s v) (clears heap r s j) heap r s j

    heap_step : Step (RowsRise l n top) on (fill_heap_part l n m base w) (fill_heap_part l n m base v)
    heap_step = same_step (RowsRise l n top) on base.shape.heap (fill_class_cells l n m base w) (fill_class_cells l n m base v) (λ r. r) (λ r. r) cells_step (λ e r s j. stay on r s j)
      where
        stay : (on : Bool) (r s : List (Cell I)) → RowsRise l n top r s → RowsRise l n top (cond on r r) s
        stay true r s j = j
        stay false r s j = j

    -- ---- first zeros

    module _ (part : ZeroPart) (at : ℕ) (there : at < length base.shape.zeros) (r s : List (Cell I)) (j : RowsRise l n top r s) where
      abbrev old : List (Cell I) → FirstZero I
      old row = zero_at l n row (zero_position base at)

      abbrev known : List (Cell I) → FillWrite → ZeroTarget → Bool
      known row x t = known_in l n (is_whole (zero_target part x.window)) (old row) x t

      abbrev after : List (Cell I) → ZeroTarget → FirstZero I
      after row t = zero_put l n (old row) t

      large_top : l.leq (old s).at (n.between (pos 0) the_end) ≡ true
      large_top = zero_at_top o b top r s (zero_position base at) j.below.small j.below.large (p.zero at there)

      rises : l.leq (old r).at (old s).at ≡ true
      rises = zero_at_monotone o b top r s (zero_position base at) j.below.small j.below.large (p.zero at there)

      small_tops : (t : ZeroTarget) → t.local.hi ≤ last_offset → l.leq (after r t).at (n.between (pos 0) the_end) ≡ true
      small_tops t near = put_in o b (old r) (o.transitive (old r).at (old s).at (n.between (pos 0) the_end) rises large_top) t near

      large_tops : (t : ZeroTarget) → t.local.hi ≤ last_offset → l.leq (after s t).at (n.between (pos 0) the_end) ≡ true
      large_tops t near = put_in o b (old s) large_top t near

      begin : TargetBelow (zero_target part w.start) (zero_target part v.start)
      begin = target_monotone part w.start v.start k.start

      wanted : Sets (is_some (zero_target part w.window)) (is_some (zero_target part v.window))
      wanted = target_some (zero_target part w.window) (zero_target part v.window) (target_monotone part w.window v.window k.window)

      abbrev IsStep : Type 0
      IsStep = RowsBelow l top (cond on (cond (is_some (zero_target part w.window)) (put_zero r (zero_position base at) (met l n (known r w) (after r) (old r) one (zero_target part w.start))) r) r) (cond (is_some (zero_target part v.window)) (put_zero s (zero_position base at) (met l n (known s v) (after s) (old s) two (zero_target part v.start))) s)

      abbrev KnowsHere : Type 0
      KnowsHere = Knows o b top r s (zero_position base at) j.below (p.zero at there) (known r w) (known s v) (after r) (after s) small_tops large_tops on one two
          (is_some (zero_target part w.window)) (is_some (zero_target part v.window)) wanted (zero_target part w.start) (zero_target part v.start) (start_near part w.start v.start k.start) (target_near part w.start v.start k.start) begin

      knows : KnowsHere
      knows = elim begins [
        | inl weak ↦ record {
          within = λ met t d m. absurd (weak_knows l n (is_whole (zero_target part v.window)) (old s) v t weak.least m);
          alone = λ z t d whole m. absurd (weak_knows l n (is_whole (zero_target part v.window)) (old s) v t weak.least m);
          after = λ x t i near. put_less o b (old r) (old s) rises large_top x t i near;
        }
        | inr c ↦ record {
          within = λ met t d m.
              let y = and_parts (lies_in_array v.one_byte (is_whole (zero_target part v.window)) t) (is_known l n (old s) v t) m in
              let x = lies_too part w.start v.start w.window v.window k.start k.window c.starts.starts.first w.one_byte v.one_byte c.starts.starts.narrow c.starts.starts.single met t d y.0 in
              (x.0, x.1, and_from (lies_in_array w.one_byte (is_whole (zero_target part w.window)) x.0) (is_known l n (old r) w x.0) x.2 (known_less o b (old r) (old s) rises w v k.zero k.least x.0 t (subst₂ (λ f g. TargetBelow f g) x.1 d begin).0 y.1));
          alone = λ z t d whole m. let y = c.alone z in (y.0, met_too part w.start v.start w.window v.window k.start k.window c.starts.starts.first w.one_byte v.one_byte c.starts.starts.narrow c.starts.starts.single t d whole, y.1);
          after = λ x t i near. put_less o b (old r) (old s) rises large_top x t i near;
        }
      ]

      zero_pair : RowsBelow l top (cond on (fill_zero l n base w one part at r) r) (fill_zero l n base v two part at s)
      unfolding fill_zero
      zero_pair = subst₂ (λ f d. RowsBelow l top (cond on (cond (is_some (zero_target part w.window)) (put_zero r (zero_position base at) f) r) r) (cond (is_some (zero_target part v.window)) (put_zero s (zero_position base at) d) s))
          (sym (met_is l n (old r) w one (is_whole (zero_target part w.window)) (zero_target part w.start))) (sym (met_is l n (old s) v two (is_whole (zero_target part v.window)) (zero_target part v.start)))
          (known_step o b top r s (zero_position base at) j.below (p.zero at there) (known r w) (known s v) (after r) (after s) small_tops large_tops on one two
          (is_some (zero_target part w.window)) (is_some (zero_target part v.window)) wanted (zero_target part w.start) (zero_target part v.start) (start_near part w.start v.start k.start) (target_near part w.start v.start k.start) begin knows)

    zeros_step : Step (RowsRise l n top) on (fill_zeros l n base w one) (fill_zeros l n base v two)
    unfolding fill_zeros fill_zero
    zeros_step = walk_step (λ part at. at < length base.shape.zeros) (RowsRise l n top) on (fill_zero l n base w one) (fill_zero l n base v two)
        (λ part at e r s j. zero_rises o b all top r s j (zero_position base at) (zero_met_at l n (zero_at l n r (zero_position base at)) w one (is_whole (zero_target part w.window)) (zero_target part w.start)) on (is_some (zero_target part w.window)) _ (zero_pair part at e r s j))
        0 base.shape.zeros (numbers_below (length base.shape.zeros) 0 base.shape.zeros (omega arith))

    base_step : Step (RowsRise l n top) on (fill_base l n m base w one) (fill_base l n m base v two)
    unfolding fill_base
    base_step = then_step (RowsRise l n top) on (λ r. fill_heap_part l n m base w (fill_leaves l n m base w one r)) (λ r. fill_heap_part l n m base v (fill_leaves l n m base v two r)) (fill_zeros l n base w one) (fill_zeros l n base v two)
        (then_step (RowsRise l n top) on (fill_leaves l n m base w one) (fill_leaves l n m base v two) (fill_heap_part l n m base w) (fill_heap_part l n m base v) leaves_step heap_step)
        zeros_step

  -- ---- all bases

  module _ (flow : Flow) (each : EachFrom (λ base number. IsPlaced n all top base × IsRegular flow.model base) 0 flow.bases.items) (w v : FillWrite) (k : FillBelow w v) where
    abbrev one : Bool
    one = is_one_instance flow.bases.items w.bases

    abbrev two : Bool
    two = is_one_instance flow.bases.items v.bases

    begins_in : (on : Bool) → (on ≡ false → IsWeak v) → (number : ℕ) → has_base v.bases number ≡ true → (now : Bool) → (now ≡ false → (on ≡ false) ⊎ (has_base w.bases number ≡ false)) → Begins w v now one two
    begins_in false weak number e now d = inl (weak refl)
    begins_in true weak number e now d = elim k.begins [
      | inl z ↦ inl z
      | inr c ↦ inr (record { starts = c; alone = λ z. made_alone flow.bases.items w.bases v.bases k.bases c.starts.some number e now d z })
    ]

    -- a larger write to more bases leaves a larger row; the smaller one may be left out where nothing surely is written
    pub fill_rises : (on : Bool) → (on ≡ false → IsWeak v) → Step (RowsRise l n top) on (write_fill l n flow w) (write_fill l n flow v)
    unfolding write_fill fill_base_if
    fill_rises on weak = walk_step (λ base number. IsPlaced n all top base × IsRegular flow.model base) (RowsRise l n top) on (fill_in l n flow.model w one) (fill_in l n flow.model v two)
        (λ base number p. if_step (RowsRise l n top) on (has_base w.bases number) (has_base v.bases number) (fill_base l n flow.model base w one) (fill_base l n flow.model base v two)
        (has_monotone w.bases v.bases number k.bases)
        (λ e now c d. base_step flow.model w v k base p.0 p.1 now one two (begins_in on weak number e now d)))
        0 flow.bases.items each

-- Copies into larger rows leave larger rows.
use Rattle.std.specs.Prelude.{◌≡◌, ℕ, ◌<◌, ℤ, Bool, true, false, cond, Option, Some, None, List, length, refl}
use Rattle.std.proofs.Common.{arith}
use Rattle.cc_base.specs.Lattices.{LatticeOf, OrderLaws}
use Rattle.cc_base.specs.IntegerDomains.{IntegersOf, BoundLaws}
use Rattle.c_layout.specs.declared.data_model.Model.{Model}
use Rattle.c_layout.specs.declared.leaf_lists.Class.{Class}
use Rattle.c_layout.specs.declared.leaf_lists.Class.TheVariants.{Char}
use Rattle.c_layout.specs.declared.shapes.BaseInfo.{BaseInfo}
use Rattle.cfg.specs.declared.programs.Flow.{Flow}
use Rattle.pointer_domain.specs.declared.base_sets.Bases.{Bases}
use Rattle.pointer_domain.specs.declared.pointer_sets.Pointers.{Pointers}
use Rattle.value_domain.specs.declared.values.values.Value as values
use Rattle.value_domain.specs.declared.values.row_cells.Cell.{Cell}
use Rattle.value_domain.specs.declared.values.row_cells.Cell.TheVariants.{Value, First}
use Rattle.domain_theorems.specs.Values.Consistency.{AreWords}
use Rattle.domain_theorems.proofs.values.Flags.{Sets, sets_flag}
use Rattle.domain_theorems.proofs.values.Parts.{value_below}
use Rattle.store_cells.specs.declared.access_windows.Window.{Window}
use Rattle.store_cells.specs.declared.first_zero_writes.ZeroTarget.{ZeroTarget}
use Rattle.store_cells.specs.ByteWrites.{null_pointer}
use Rattle.store_cells.specs.CellReads.{whole_range}
use Rattle.store_cells.specs.ClassNumbers.{class_at, is_pointer}
use Rattle.store_cells.specs.FirstZeroWrites.{zero_target, any_zero, forget_target, forget_part, forget_zeros}
use Rattle.store.specs.LeafSelection.{is_overlapped, has_stray}
use Rattle.store_objects.specs.LiveBases.{has_base}
use Rattle.store_cells.specs.RowPositions.{cell_at, leaf_position, class_position, zero_position, join_value}
use Rattle.store_cells.specs.ScalarTypes.{kind_of}
use Rattle.store_monotone.specs.Operations.ConsistentRows.{AreConsistent}
use Rattle.store_monotone.specs.Operations.Placements.{EachFrom, WindowWithin, IsPlaced, IsRegular}
use Rattle.store_monotone.specs.Operations.TopCells.{top_number, top_value}
use Rattle.store_monotone.proofs.operations.CellReads.{whole_monotone, whole_top, labels_top}
use Rattle.store_monotone.proofs.operations.Consistent.{IsEven, even_bare, set_keeps}
use Rattle.store_monotone.proofs.operations.LiveSets.{has_monotone}
use Rattle.store_monotone.proofs.operations.PairedSteps.{Step, walk_pair, walk_step, turns_step, then_step, if_step, same_step, numbers_below, any_each}
use Rattle.store_monotone.proofs.operations.Windows.{overlapped_monotone}
use Rattle.store_monotone.proofs.operations.ZeroTargets.{forget_step}
use Rattle.transfer_library_writes.specs.declared.copied_bytes.CopiedBytes.{CopiedBytes}
use Rattle.transfer_library_writes.specs.declared.copied_bytes.CopyWrite.{CopyWrite}
use Rattle.transfer_library_writes.specs.CopyWrites.{is_read_class, with_null, copied_value, copy_leaf, copy_leaf_of, copy_leaves, copy_class_of, copy_class_cells, copy_heap_part, copy_base, copy_base_if, copy_in, write_copy}
use Rattle.transfer_monotone.specs.Values.RisingRows.{PointersRise, ValuesRise, RowsRise}
use Rattle.transfer_monotone.proofs.values.OwnBases.{words_less}
use Rattle.transfer_monotone.proofs.values.Results.{null_rises, bare_own}
use Rattle.transfer_monotone.proofs.values.RisingCells.{own_bases}
use Rattle.system_monotone.proofs.library_writes.WrittenCells.{join_rises}
use Rattle.system_monotone.specs.LibraryWrites.CopyOrder.{BytesBelow, CopyBelow}
use Rattle.system_monotone.proofs.library_writes.CopiedBytes.{read_class_more, joined_rises, beside_rises}

module _ {I : Type 0} {l : LatticeOf I} {n : IntegersOf I} {stands : I → ℤ → Type 0} (o : OrderLaws l) (b : BoundLaws l n stands) (all : Bases) (words : AreWords all) where
  -- ---- values

  null_more : (p q : Pointers I) → PointersRise l n all p q → (a c : Bool) → Sets a c → PointersRise l n all (with_null l p a) (with_null l q c)
  null_more p q h true true m = joined_rises o b all words p q (null_pointer l) (null_pointer l) h (null_rises o b all)
  null_more p q h true false m = absurd (let z : false ≡ true = m refl in cc)
  null_more p q h false true m = beside_rises o b all words p q (null_pointer l) h (bare_own o b all true false)
  null_more p q h false false m = h

  -- what a cell is joined with
  value_more : (m : Model) (class : Class) (signed : Bool) (c d : CopiedBytes I) → BytesBelow l n all c d → ValuesRise l n all (copied_value l n m class signed c) (copied_value l n m class signed d)
  value_more m class signed c d h = by_class (is_pointer class)
    where
      pointer : values.Value I
      pointer = record { num = l.least; pointer = with_null l c.pointers c.numbers; indeterminate = c.indeterminate; labels = c.labels }

      larger : values.Value I
      larger = record { num = l.least; pointer = with_null l d.pointers d.numbers; indeterminate = d.indeterminate; labels = d.labels }

      j : PointersRise l n all pointer.pointer larger.pointer
      j = null_more c.pointers d.pointers h.pointers c.numbers d.numbers h.numbers

      by_class : (q : Bool) → ValuesRise l n all (cond q pointer (whole_range l n (kind_of m class signed) c.labels c.indeterminate)) (cond q larger (whole_range l n (kind_of m class signed) d.labels d.indeterminate))
      by_class true = record {
        below = value_below l pointer larger (record { num = o.reflexive l.least; pointer = j.below; indeterminate = sets_flag c.indeterminate d.indeterminate h.indeterminate; labels = h.labels });
        own = value_below l larger (top_value n all) (record { num = o.least_below (top_number n); pointer = j.own; indeterminate = sets_flag d.indeterminate true (λ e. refl); labels = labels_top d.labels });
        even = j.even;
      }
      by_class false = let e = even_bare o b false false in record {
        below = whole_monotone o b (kind_of m class signed) c.labels d.labels c.indeterminate d.indeterminate h.labels (sets_flag c.indeterminate d.indeterminate h.indeterminate);
        own = whole_top o b all m class signed d.labels d.indeterminate;
        even = e.1;
      }

  module _ (top : List (Cell I)) where
    -- the value of a cell in words
    even_of : (v w : values.Value I) → ValuesRise l n all v w → IsEven n v.pointer
    even_of v w h = (words_less v.pointer.bases all (own_bases o b all words top v w h) words, h.even)

    -- ---- first zeros

    forgotten_even : (base : BaseInfo) (w : Window) (row : List (Cell I)) → AreConsistent n row → AreConsistent n (forget_zeros l n base w row)
    unfolding forget_zeros forget_target
    forgotten_even base w row h = walk_pair (λ part at. Unit {0}) (λ x y. AreConsistent n x) (forget_part l n base w) (forget_part l n base w)
        (λ part at x y e j. by_target (zero_target part w) (zero_position base at) x j) 0 base.shape.zeros row row (any_each 0 base.shape.zeros) h
      where
        by_target : (t : Option ZeroTarget) (at : ℕ) (x : List (Cell I)) → AreConsistent n x → AreConsistent n (forget_target l n x at t)
        by_target None at x j = j
        by_target (Some t) at x j = set_keeps n x at (First (any_zero l n)) j tt

    forgets : (base : BaseInfo) → IsPlaced n all top base → (w u : Window) → WindowWithin w u → (on : Bool) → Step (RowsRise l n top) on (forget_zeros l n base w) (forget_zeros l n base u)
    forgets base p w u i on r s h = record { below = forget_step o b all top base p on w u i r s h.below; even = by_way on }
      where
        by_way : (on : Bool) → AreConsistent n (cond on (forget_zeros l n base w r) r)
        by_way true = forgotten_even base w r h.even
        by_way false = h.even

    -- ---- one base

    module _ (m : Model) (w v : CopyWrite I) (k : CopyBelow l n all w v) (base : BaseInfo) (p : IsPlaced n all top base) (q : IsRegular m base) (on : Bool) where
      -- a cell is joined with bytes that are copied, or left
      cell_step : (i : ℕ) → cell_at top i ≡ Value (top_value n all) → (class : Class) (signed : Bool) (a c : Bool) → Sets a c → (r s : List (Cell I)) → RowsRise l n top r s
          → RowsRise l n top (cond on (cond a (join_value l n r i (copied_value l n m class signed w.bytes)) r) r) (cond c (join_value l n s i (copied_value l n m class signed v.bytes)) s)
      cell_step i e class signed a c z r s h =
          let small = copied_value l n m class signed w.bytes in
          let large = copied_value l n m class signed v.bytes in
          let j = value_more m class signed w.bytes v.bytes k.bytes in
          join_rises o b all top i e r s h small large j.below j.own (even_of small large j) on a c z

      leaves_step : Step (RowsRise l n top) on (copy_leaves l n m base w) (copy_leaves l n m base v)
      unfolding copy_leaves copy_leaf
      leaves_step = walk_step (λ leaf at. at < length base.shape.cells) (RowsRise l n top) on (copy_leaf_of l n m base w) (copy_leaf_of l n m base v)
          (λ leaf at e r s j. cell_step (leaf_position base at) (p.leaf at e) leaf.class leaf.signed (is_overlapped m leaf w.window) (is_overlapped m leaf v.window) (overlapped_monotone m leaf w.window v.window k.window) r s j)
          0 base.shape.cells (numbers_below (length base.shape.cells) 0 base.shape.cells (omega arith))

      classes_step : base.shape.heap ≡ true → Step (RowsRise l n top) on (copy_class_cells l n m base w) (copy_class_cells l n m base v)
      unfolding copy_class_cells
      classes_step heap =
          let stray = has_stray base.shape.cells Char w.window in
          let more = has_stray base.shape.cells Char v.window in
          turns_step (RowsRise l n top) on (copy_class_of l n m base w stray) (copy_class_of l n m base v more) 6
          (λ at e r s j. cell_step (class_position base at) (p.class at heap e) (class_at at) true (is_read_class stray at) (is_read_class more at) (read_class_more stray more (q.stray Char w.window v.window k.window heap) at) r s j)
          6 (omega arith)

      heap_step : Step (RowsRise l n top) on (copy_heap_part l n m base w) (copy_heap_part l n m base v)
      heap_step = same_step (RowsRise l n top) on base.shape.heap (copy_class_cells l n m base w) (copy_class_cells l n m base v) (λ r. r) (λ r. r) classes_step (λ e r s j. stay on r s j)
        where
          stay : (on : Bool) (r s : List (Cell I)) → RowsRise l n top r s → RowsRise l n top (cond on r r) s
          stay true r s j = j
          stay false r s j = j

      base_step : Step (RowsRise l n top) on (copy_base l n m base w) (copy_base l n m base v)
      unfolding copy_base
      base_step = then_step (RowsRise l n top) on (λ r. copy_heap_part l n m base w (copy_leaves l n m base w r)) (λ r. copy_heap_part l n m base v (copy_leaves l n m base v r)) (forget_zeros l n base w.window) (forget_zeros l n base v.window)
          (then_step (RowsRise l n top) on (copy_leaves l n m base w) (copy_leaves l n m base v) (copy_heap_part l n m base w) (copy_heap_part l n m base v) leaves_step heap_step)
          (forgets base p w.window v.window k.window on)

    -- a larger copy to more bases leaves a larger row; the smaller one may be left out
    pub copy_step : (flow : Flow) → EachFrom (λ base number. IsPlaced n all top base × IsRegular flow.model base) 0 flow.bases.items → (w v : CopyWrite I) → CopyBelow l n all w v → (on : Bool) → Step (RowsRise l n top) on (write_copy l n flow w) (write_copy l n flow v)
    unfolding write_copy copy_base_if
    copy_step flow each w v k on = walk_step (λ base number. IsPlaced n all top base × IsRegular flow.model base) (RowsRise l n top) on (copy_in l n flow.model w) (copy_in l n flow.model v)
        (λ base number p. if_step (RowsRise l n top) on (has_base w.bases number) (has_base v.bases number) (copy_base l n flow.model base w) (copy_base l n flow.model base v) (has_monotone w.bases v.bases number k.bases)
        (λ e now c d. base_step flow.model w v k base p.0 p.1 now))
        0 flow.bases.items each

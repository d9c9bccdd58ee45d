-- Bytes that are read from larger rows through larger pointers.
use Rattle.std.specs.Prelude.{◌≡◌, ℕ, ◌<◌, ◌==◌, ℤ, Bool, true, false, cond, not, Option, Some, None, List, length, refl}
use Rattle.std.proofs.Common.{arith, inl}
use Rattle.cc_base.specs.Lattices.{LatticeOf, OrderLaws}
use Rattle.cc_base.specs.IntegerDomains.{IntegersOf, BoundLaws}
use Rattle.c_layout.specs.declared.leaf_lists.Class.{Class}
use Rattle.c_layout.specs.declared.leaf_lists.Class.TheVariants.{Char}
use Rattle.c_layout.specs.declared.data_model.Model.{Model}
use Rattle.c_layout.specs.declared.shapes.BaseInfo.{BaseInfo}
use Rattle.cfg.specs.declared.programs.Flow.{Flow}
use Rattle.pointer_domain.specs.declared.base_sets.Bases.{Bases}
use Rattle.pointer_domain.specs.declared.pointer_sets.Pointers.{Pointers}
use Rattle.pointer_domain.specs.BaseSets.{bases_within}
use Rattle.pointer_domain.specs.PointerLattice.{pointers_leq, pointer_lattice, pointer_order}
use Rattle.value_domain.specs.declared.values.values.Value.{Value}
use Rattle.value_domain.specs.declared.values.row_cells.Cell.{Cell}
use Rattle.value_domain.specs.Values.LabelSets.{all_labels, labels_join, labels_order}
use Rattle.domain_theorems.specs.Values.Consistency.{AreWords}
use Rattle.domain_theorems.proofs.values.Flags.{Sets, flag_sets, or_sets, or_left}
use Rattle.domain_theorems.proofs.values.Parts.{pointer_parts, value_parts}
use Rattle.store_cells.specs.declared.access_windows.Window.{Window}
use Rattle.store_cells.specs.ClassNumbers.{class_at, is_pointer}
use Rattle.store.specs.LeafSelection.{is_overlapped, has_stray, meets_padding}
use Rattle.store_objects.specs.LiveBases.{has_base}
use Rattle.store_cells.specs.RowPositions.{leaf_position, class_position, value_at}
use Rattle.store_cells.specs.Walks.{walk, turns}
use Rattle.store_monotone.specs.Operations.Placements.{EachFrom, WindowWithin, IsPlaced, IsRegular}
use Rattle.store_monotone.specs.Operations.TopCells.{top_value}
use Rattle.store_monotone.proofs.operations.CellReads.{labels_top}
use Rattle.store_monotone.proofs.operations.Consistent.{even_join}
use Rattle.store_monotone.proofs.operations.LiveSets.{has_monotone}
use Rattle.store_monotone.proofs.operations.PairedSteps.{Step, walk_step, turns_step, then_step, if_step, same_step, numbers_below}
use Rattle.store_monotone.proofs.operations.Windows.{WindowsBelow, overlapped_monotone}
use Rattle.transfer_library_writes.specs.declared.copied_bytes.CopiedBytes.{CopiedBytes}
use Rattle.transfer_library_writes.specs.CopyWrites.{no_bytes, with_cell, with_padding, with_leaf, with_leaves, is_read_class, with_class, with_class_cells, as_numbers, with_rest, with_base, with_base_if, with_base_of, bytes_of_source}
use Rattle.transfer_monotone.specs.Values.RisingRows.{PointersRise, ValuesRise, RowsRise}
use Rattle.transfer_monotone.proofs.values.OwnBases.{words_less}
use Rattle.transfer_monotone.proofs.values.Results.{of_pointer, smaller_own, none_rises}
use Rattle.transfer_monotone.proofs.values.RisingCells.{value_rises}
use Rattle.system_monotone.specs.LibraryWrites.CopyOrder.{BytesBelow}

-- more class cells are read
pub read_class_more : (stray more : Bool) → Sets stray more → (number : ℕ) → Sets (is_read_class stray number) (is_read_class more number)
read_class_more stray more h number = or_sets (not (number == 0)) stray (not (number == 0)) more (λ e. e) h

module _ {I : Type 0} {l : LatticeOf I} {n : IntegersOf I} {stands : I → ℤ → Type 0} (o : OrderLaws l) (b : BoundLaws l n stands) (all : Bases) (words : AreWords all) where
  abbrev Below : CopiedBytes I → CopiedBytes I → Type 0
  Below c d = BytesBelow l n all c d

  -- ---- joined pointers

  words_of : (p q : Pointers I) → PointersRise l n all p q → AreWords p.bases
  words_of p q h = words_less p.bases all (pointer_parts l p (top_value n all).pointer (smaller_own o b all p q h)).bases words

  pub joined_rises : (p q u v : Pointers I) → PointersRise l n all p q → PointersRise l n all u v → PointersRise l n all ((pointer_lattice l).join p u) ((pointer_lattice l).join q v)
  joined_rises p q u v h j =
      let order = pointer_order o in
      let even = even_join o b p u (words_of p q h, h.even) (words_of u v j, j.even) in
      record {
        below = order.join_least p u ((pointer_lattice l).join q v) (order.transitive p q ((pointer_lattice l).join q v) h.below (order.join_left q v)) (order.transitive u v ((pointer_lattice l).join q v) j.below (order.join_right q v));
        own = order.join_least q v (top_value n all).pointer h.own j.own;
        even = even.1;
      }

  pub beside_rises : (p q v : Pointers I) → PointersRise l n all p q → pointers_leq l v (top_value n all).pointer ≡ true → PointersRise l n all p ((pointer_lattice l).join q v)
  beside_rises p q v h j =
      let order = pointer_order o in
      record {
        below = order.transitive p q ((pointer_lattice l).join q v) h.below (order.join_left q v);
        own = order.join_least q v (top_value n all).pointer h.own j;
        even = h.even;
      }

  -- ---- cells

  both_cells : (c d : CopiedBytes I) → Below c d → (v w : Value I) → ValuesRise l n all v w → (class : Class) → Below (with_cell l c v class) (with_cell l d w class)
  both_cells c d h v w j class =
      let p = value_parts l v w j.below in
      record {
        indeterminate = or_sets c.indeterminate v.indeterminate d.indeterminate w.indeterminate h.indeterminate (flag_sets v.indeterminate w.indeterminate p.indeterminate);
        labels = labels_order.join_least c.labels v.labels (labels_join d.labels w.labels)
            (labels_order.transitive c.labels d.labels (labels_join d.labels w.labels) h.labels (labels_order.join_left d.labels w.labels))
            (labels_order.transitive v.labels w.labels (labels_join d.labels w.labels) p.labels (labels_order.join_right d.labels w.labels));
        pointers = by_class (is_pointer class);
        numbers = or_sets c.numbers (not (is_pointer class)) d.numbers (not (is_pointer class)) h.numbers (λ e. e);
      }
    where
      by_class : (q : Bool) → PointersRise l n all (cond q ((pointer_lattice l).join c.pointers v.pointer) c.pointers) (cond q ((pointer_lattice l).join d.pointers w.pointer) d.pointers)
      by_class true = joined_rises c.pointers d.pointers v.pointer w.pointer h.pointers (of_pointer o b all j)
      by_class false = h.pointers

  cell_above : (c d : CopiedBytes I) → Below c d → (w : Value I) → pointers_leq l w.pointer (top_value n all).pointer ≡ true → (class : Class) → Below c (with_cell l d w class)
  cell_above c d h w j class = record {
    indeterminate = λ e. or_left d.indeterminate w.indeterminate (h.indeterminate e);
    labels = labels_order.transitive c.labels d.labels (labels_join d.labels w.labels) h.labels (labels_order.join_left d.labels w.labels);
    pointers = by_class (is_pointer class);
    numbers = λ e. or_left d.numbers (not (is_pointer class)) (h.numbers e);
  }
    where
      by_class : (q : Bool) → PointersRise l n all c.pointers (cond q ((pointer_lattice l).join d.pointers w.pointer) d.pointers)
      by_class true = beside_rises c.pointers d.pointers w.pointer h.pointers j
      by_class false = h.pointers

  parts : {v w : Value I} → ValuesRise l n all v w → pointers_leq l w.pointer (top_value n all).pointer ≡ true
  parts {v} {w} j = (value_parts l w (top_value n all) j.own).pointer

  -- a cell, which may be left out
  cell_step : (v w : Value I) → ValuesRise l n all v w → (class : Class) (on p q : Bool) → Sets p q → (c d : CopiedBytes I) → Below c d → Below (cond on (cond p (with_cell l c v class) c) c) (cond q (with_cell l d w class) d)
  cell_step v w j class true true true m c d h = both_cells c d h v w j class
  cell_step v w j class true true false m c d h = absurd (let z : false ≡ true = m refl in cc)
  cell_step v w j class true false true m c d h = cell_above c d h w (parts j) class
  cell_step v w j class true false false m c d h = h
  cell_step v w j class false p true m c d h = cell_above c d h w (parts j) class
  cell_step v w j class false p false m c d h = h

  -- ---- bytes of which nothing is known

  padded_step : (on p q : Bool) → Sets p q → (c d : CopiedBytes I) → Below c d → Below (cond on (with_padding c p) c) (with_padding d q)
  padded_step true true true m c d h = record { indeterminate = λ e. refl; labels = labels_order.reflexive all_labels; pointers = h.pointers; numbers = λ e. refl }
  padded_step true true false m c d h = absurd (let z : false ≡ true = m refl in cc)
  padded_step true false true m c d h = record { indeterminate = λ e. refl; labels = labels_top c.labels; pointers = h.pointers; numbers = λ e. refl }
  padded_step true false false m c d h = h
  padded_step false p true m c d h = record { indeterminate = λ e. refl; labels = labels_top c.labels; pointers = h.pointers; numbers = λ e. refl }
  padded_step false p false m c d h = h

  numbers_step : (on : Bool) (c d : CopiedBytes I) → Below c d → Below (cond on (as_numbers c) c) (as_numbers d)
  numbers_step true c d h = record { indeterminate = h.indeterminate; labels = h.labels; pointers = h.pointers; numbers = λ e. refl }
  numbers_step false c d h = record { indeterminate = h.indeterminate; labels = h.labels; pointers = h.pointers; numbers = λ e. refl }

  -- ---- one base

  module _ (m : Model) (top r s : List (Cell I)) (rows : RowsRise l n top r s) where
    module _ (base : BaseInfo) (p : IsPlaced n all top base) (q : IsRegular m base) (w u : Window) (i : WindowWithin w u) (on : Bool) where
      leaves_step : Step Below on (with_leaves l n m base r w) (with_leaves l n m base s u)
      unfolding with_leaves with_leaf
      leaves_step = walk_step (λ leaf at. at < length base.shape.cells) Below on (with_leaf l n m base r w) (with_leaf l n m base s u)
          (λ leaf at e c d h. cell_step (value_at l n r (leaf_position base at)) (value_at l n s (leaf_position base at)) (value_rises o b all words top r s rows (leaf_position base at) (inl (p.leaf at e))) leaf.class
          on (is_overlapped m leaf w) (is_overlapped m leaf u) (overlapped_monotone m leaf w u i) c d h)
          0 base.shape.cells (numbers_below (length base.shape.cells) 0 base.shape.cells (omega arith))

      classes_step : base.shape.heap ≡ true → Step Below on (with_class_cells l n base r w) (with_class_cells l n base s u)
      unfolding with_class_cells
      classes_step heap = then_step Below on (turns (with_class l n base r (has_stray base.shape.cells Char w)) 6) (turns (with_class l n base s (has_stray base.shape.cells Char u)) 6) as_numbers as_numbers
          (turns_step Below on (with_class l n base r (has_stray base.shape.cells Char w)) (with_class l n base s (has_stray base.shape.cells Char u)) 6
          (λ at e c d h. cell_step (value_at l n r (class_position base at)) (value_at l n s (class_position base at)) (value_rises o b all words top r s rows (class_position base at) (inl (p.class at heap e))) (class_at at)
          on (is_read_class (has_stray base.shape.cells Char w) at) (is_read_class (has_stray base.shape.cells Char u) at) (read_class_more (has_stray base.shape.cells Char w) (has_stray base.shape.cells Char u) (q.stray Char w u i heap) at) c d h)
          6 (omega arith))
          (numbers_step on)

      rest_step : Step Below on (with_rest l n m base r w) (with_rest l n m base s u)
      rest_step = same_step Below on base.shape.heap (with_class_cells l n base r w) (with_class_cells l n base s u)
          (λ c. with_padding c (meets_padding m base.shape.cells w base.size)) (λ c. with_padding c (meets_padding m base.shape.cells u base.size))
          classes_step
          (λ e. padded_step on (meets_padding m base.shape.cells w base.size) (meets_padding m base.shape.cells u base.size) (q.padding w u i))

      base_step : Step Below on (with_base l n m base r w) (with_base l n m base s u)
      unfolding with_base
      base_step = then_step Below on (with_leaves l n m base r w) (with_leaves l n m base s u) (with_rest l n m base r w) (with_rest l n m base s u) leaves_step rest_step

  -- ---- all bases

  pub no_bytes_below : (d : CopiedBytes I) → pointers_leq l d.pointers (top_value n all).pointer ≡ true → Below (no_bytes l) d
  no_bytes_below d h = record { indeterminate = λ e. absurd (cc); labels = labels_order.least_below d.labels; pointers = none_rises o b all d.pointers h; numbers = λ e. absurd (cc) }

  nothing_below : Below (no_bytes l) (no_bytes l)
  nothing_below = no_bytes_below (no_bytes l) ((pointer_order o).least_below (top_value n all).pointer)

  module _ (flow : Flow) (top r s : List (Cell I)) (rows : RowsRise l n top r s) (each : EachFrom (λ base number. IsPlaced n all top base × IsRegular flow.model base) 0 flow.bases.items) (set more : Bases) (k : bases_within set more ≡ true) where
    sources_step : (w u : Window) → WindowWithin w u → (on : Bool) → Step Below on (walk (with_base_of l n flow.model r set w) 0 flow.bases.items) (walk (with_base_of l n flow.model s more u) 0 flow.bases.items)
    unfolding with_base_if
    sources_step w u i on = walk_step (λ base number. IsPlaced n all top base × IsRegular flow.model base) Below on (with_base_of l n flow.model r set w) (with_base_of l n flow.model s more u)
        (λ base number e. if_step Below on (has_base set number) (has_base more number) (with_base l n flow.model base r w) (with_base l n flow.model base s u) (has_monotone set more number k)
        (λ z now c d. base_step flow.model top r s rows base e.0 e.1 w u i now))
        0 flow.bases.items each

    -- the bytes of larger windows; where there is one, it has an offset
    pub bytes_more : (w u : Option Window) → WindowsBelow w u → ((v : Window) → u ≡ Some v → WindowWithin v v) → Below (bytes_of_source l n flow r set w) (bytes_of_source l n flow s more u)
    bytes_more None None i j = nothing_below
    bytes_more None (Some u) i j = sources_step u u (j u refl) false (no_bytes l) (no_bytes l) nothing_below
    bytes_more (Some w) None i j = absurd i
    bytes_more (Some w) (Some u) i j = sources_step w u i true (no_bytes l) (no_bytes l) nothing_below

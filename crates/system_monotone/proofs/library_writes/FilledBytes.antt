-- Bytes that are set leave something in each cell.
use Rattle.std.specs.Prelude.{◌+◌, Bool, true, false, is_some}
use Rattle.cc_base.specs.Lattices.{LatticeOf}
use Rattle.cc_base.specs.IntegerDomains.{IntegersOf}
use Rattle.c_layout.specs.declared.data_model.Model.{Model}
use Rattle.c_layout.specs.declared.leaf_lists.Class.TheVariants.{Char}
use Rattle.c_layout.specs.declared.shapes.BaseInfo.{BaseInfo}
use Rattle.cfg.specs.declared.programs.Flow.{Flow}
use Rattle.value_domain.specs.declared.values.row_cells.Cell.TheVariants.{First}
use Rattle.store_cells.specs.FirstZeroWrites.{zero_target}
use Rattle.store.specs.LeafSelection.{is_overlapped, has_stray}
use Rattle.store_objects.specs.LiveBases.{has_base, is_one_instance}
use Rattle.store_cells.specs.RowPositions.{leaf_position, class_position, zero_position}
use Rattle.transfer_library_writes.specs.declared.fill_writes.FillWrite.{FillWrite}
use Rattle.transfer_library_writes.specs.FillWrites.{is_covered, fill_leaf, fill_leaf_of, fill_leaves, clears_instance, fill_stray, fill_class, fill_class_cells, fill_zero, fill_zeros, fill_heap_part, fill_base, fill_base_if, fill_in, write_fill}
use Rattle.transfer_monotone.specs.Edges.FilledRows.{Fills}
use Rattle.transfer_monotone.proofs.edges.FilledSteps.{fill_set, fill_if, fill_walk, fill_turns, fill_join, fill_write}

module _ {I : Type 0} (l : LatticeOf I) (n : IntegersOf I) where
  module _ (m : Model) (base : BaseInfo) (write : FillWrite) where
    leaves_filled : (alone : Bool) → Fills (fill_leaves l n m base write alone)
    unfolding fill_leaves fill_leaf_of fill_leaf
    leaves_filled alone row h = fill_walk (fill_leaf_of l n m base write alone)
        (λ leaf at x k. fill_if (is_overlapped m leaf write.window) _ x (fill_if (is_covered m leaf write alone) _ _ (fill_write l n (leaf_position base at) _ true x k) (fill_write l n (leaf_position base at) _ false x k)) k) 0 base.shape.cells row h

    stray_filled : (cleared : Bool) → Fills (fill_stray l n m base write cleared)
    stray_filled cleared row h = fill_if (has_stray base.shape.cells Char write.window) _ row (fill_join l n (class_position base 0) _ row h) h

    classes_filled : Fills (fill_class_cells l n m base write)
    unfolding fill_class_cells
    classes_filled row h =
        let cleared = clears_instance l n base row write in
        fill_turns (fill_class l n m base write cleared) (λ at x k. fill_join l n (class_position base (at + 1)) _ x k) 5 (fill_stray l n m base write cleared row) (stray_filled cleared row h)

    heap_filled : Fills (fill_heap_part l n m base write)
    heap_filled row h = fill_if base.shape.heap _ row (classes_filled row h) h

    zeros_filled : (alone : Bool) → Fills (fill_zeros l n base write alone)
    unfolding fill_zeros fill_zero
    zeros_filled alone row h = fill_walk (fill_zero l n base write alone) (λ part at x k. fill_if (is_some (zero_target part write.window)) _ x (fill_set x (zero_position base at) (First _) tt k) k) 0 base.shape.zeros row h

    base_filled : (alone : Bool) → Fills (fill_base l n m base write alone)
    unfolding fill_base
    base_filled alone row h = zeros_filled alone (fill_heap_part l n m base write (fill_leaves l n m base write alone row)) (heap_filled (fill_leaves l n m base write alone row) (leaves_filled alone row h))

  pub bytes_filled : (flow : Flow) (write : FillWrite) → Fills (write_fill l n flow write)
  unfolding write_fill fill_base_if
  bytes_filled flow write row h =
      let alone = is_one_instance flow.bases.items write.bases in
      fill_walk (fill_in l n flow.model write alone) (λ base number x k. fill_if (has_base write.bases number) _ x (base_filled flow.model base write alone x k) k) 0 flow.bases.items row h

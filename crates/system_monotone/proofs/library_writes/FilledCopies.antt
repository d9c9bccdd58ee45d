-- Copies leave something in each cell.
use Rattle.cc_base.specs.Lattices.{LatticeOf}
use Rattle.cc_base.specs.IntegerDomains.{IntegersOf}
use Rattle.c_layout.specs.declared.data_model.Model.{Model}
use Rattle.c_layout.specs.declared.leaf_lists.Class.TheVariants.{Char}
use Rattle.c_layout.specs.declared.shapes.BaseInfo.{BaseInfo}
use Rattle.cfg.specs.declared.programs.Flow.{Flow}
use Rattle.store.specs.LeafSelection.{has_stray}
use Rattle.transfer_library_writes.specs.declared.copied_bytes.CopyWrite.{CopyWrite}
use Rattle.transfer_library_writes.specs.CopyWrites.{copy_leaf, copy_leaf_of, copy_leaves, copy_class_of, copy_class_cells, copy_base, copy_base_if, copy_in, write_copy}
use Rattle.transfer_monotone.specs.Edges.FilledRows.{Fills}
use Rattle.transfer_monotone.proofs.edges.FilledSteps.{fill_if, fill_walk, fill_turns, fill_join, fill_forgotten}

module _ {I : Type 0} (l : LatticeOf I) (n : IntegersOf I) where
  leaves_fill : (m : Model) (base : BaseInfo) (write : CopyWrite I) → Fills (copy_leaves l n m base write)
  unfolding copy_leaves copy_leaf
  leaves_fill m base write row h = fill_walk (copy_leaf_of l n m base write) (λ leaf at x k. fill_if _ _ x (fill_join l n _ _ x k) k) 0 base.shape.cells row h

  classes_fill : (m : Model) (base : BaseInfo) (write : CopyWrite I) → Fills (copy_class_cells l n m base write)
  unfolding copy_class_cells
  classes_fill m base write row h = fill_turns (copy_class_of l n m base write (has_stray base.shape.cells Char write.window)) (λ at x k. fill_if _ _ x (fill_join l n _ _ x k) k) 6 row h

  base_fills : (m : Model) (base : BaseInfo) (write : CopyWrite I) → Fills (copy_base l n m base write)
  unfolding copy_base
  base_fills m base write row h =
      let leaves = leaves_fill m base write row h in
      fill_forgotten l n base write.window _ (fill_if base.shape.heap _ _ (classes_fill m base write (copy_leaves l n m base write row) leaves) leaves)

  pub copy_fills : (flow : Flow) (write : CopyWrite I) → Fills (write_copy l n flow write)
  unfolding write_copy copy_base_if
  copy_fills flow write row h = fill_walk (copy_in l n flow.model write) (λ base number x k. fill_if _ _ x (base_fills flow.model base write x k) k) 0 flow.bases.items row h

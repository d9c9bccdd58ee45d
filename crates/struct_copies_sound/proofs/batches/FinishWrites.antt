-- Where first zeros and padding of a copied struct are written.
use Rattle.std.proofs.Common.{◌≡◌, ℕ, ◌+◌, Bool, true, cond, Option, length, arith, subst}
use Rattle.std.specs.Prelude.{is_some}
use Rattle.cc_base.specs.Lattices.{LatticeOf}
use Rattle.cc_base.specs.IntegerDomains.{IntegersOf}
use Rattle.c_layout.specs.declared.data_model.Model.{Model}
use Rattle.c_layout.specs.declared.leaf_lists.Leaf.{Leaf}
use Rattle.c_layout.specs.declared.shapes.BaseInfo.{BaseInfo}
use Rattle.c_layout.specs.declared.shapes.ZeroPart.{ZeroPart}
use Rattle.cfg.specs.WellFormed.{base_cells}
use Rattle.value_domain.specs.declared.values.row_cells.Cell.TheVariants.{First}
use Rattle.store_cells.specs.declared.access_windows.Window.{Window}
use Rattle.store_cells.specs.ClassNumbers.{class_at}
use Rattle.store_cells.specs.FirstZeroWrites.{any_zero, zero_target, last_of}
use Rattle.store_cells.specs.RowPositions.{leaf_position, class_position, zero_position, join_value, put_zero}
use Rattle.store_cells.specs.Walks.{turns}
use Rattle.store_sound.proofs.operations.Only.{Only, only_put, only_cond, only_if, only_same, only_then, only_more}
use Rattle.store_sound.proofs.operations.StoreRows.{Fits, join_only}
use Rattle.store_sound.proofs.regions.Layers.{leaves_within, zeros_within, classes_within}
use Rattle.store_structs.specs.CopyZeros.{Exact, copied_window, zero_copied, copy_part_at, copy_part, copy_zeros}
use Rattle.store_structs.specs.PaddingWrites.{Padded, padding_meets, meets_leaf, unknown_value, pad_leaf_at, pad_leaf, pad_leaves, pad_class, pad_classes, pad_part_at, pad_part, pad_zeros, pad_cells, write_padding}
use Rattle.store_structs.specs.StructCopies.{Route, finish_base}

module _ {I : Type 0} (l : LatticeOf I) (n : IntegersOf I) (base : BaseInfo) (fits : Fits base) where
  part_only : (w : Window) (exact : Option Exact) (z : ℕ) (part : ZeroPart) → Only (zero_position base z) (zero_position base z + 1) (copy_part l n base w exact part z)
  unfolding copy_part_at
  part_only w exact z part =
      let x : ℕ = zero_position base z in
      only_cond x (x + 1) (is_some (zero_target part w)) (λ row. put_zero row (zero_position base z) (zero_copied l n exact part row)) (λ row. row) (only_put x (x + 1) x (λ row. First (zero_copied l n exact part row)) (omega arith) (omega arith)) (only_same x (x + 1))

  pub zeros_only : (w : Window) (exact : Option Exact) → Only (base.first + base_cells base) ((base.first + base_cells base) + length base.shape.zeros) (copy_zeros l n base w exact)
  unfolding copy_zeros
  zeros_only w exact = zeros_within base fits (λ part z. copy_part l n base w exact part z) (part_only w exact)

  module _ (m : Model) (p : Padded) where
    leaf_only : (j : ℕ) (leaf : Leaf) → Only (leaf_position base j) (leaf_position base j + 1) (pad_leaf l n m base p leaf j)
    unfolding pad_leaf_at
    leaf_only j leaf =
        let x : ℕ = leaf_position base j in
        only_cond x (x + 1) (meets_leaf m p leaf) (λ row. join_value l n row (leaf_position base j) (unknown_value l n m leaf.class leaf.signed)) (λ row. row) (join_only l n m x (unknown_value l n m leaf.class leaf.signed)) (only_same x (x + 1))

    leaves_only : Only base.first (base.first + length base.shape.cells) (pad_leaves l n m base p)
    unfolding pad_leaves
    leaves_only = leaves_within base fits (λ leaf j. pad_leaf l n m base p leaf j) leaf_only

    class_only : (c : ℕ) → Only (class_position base (c + 0)) (class_position base (c + 0) + 1) (pad_class l n m base c)
    unfolding pad_class
    class_only c = let e : c ≡ c + 0 = omega arith in subst (λ z. Only (class_position base z) (class_position base z + 1) (λ row. join_value l n row (class_position base c) (unknown_value l n m (class_at c) true))) e (join_only l n m (class_position base c) (unknown_value l n m (class_at c) true))

    pub cells_only : Only base.first (base.first + base_cells base) (pad_cells l n m base p)
    unfolding pad_cells pad_classes
    cells_only = only_if base.first (base.first + base_cells base) base.shape.heap (λ row. turns (pad_class l n m base) 6 (pad_leaves l n m base p row)) (λ row. pad_leaves l n m base p row)
        (λ heap. only_then base.first (base.first + base_cells base) (pad_leaves l n m base p) (λ row. turns (pad_class l n m base) 6 row)
        (only_more base.first (base.first + base_cells base) (pad_leaves l n m base p) (omega arith) (omega arith) leaves_only)
        (only_more base.first (base.first + base_cells base) (λ row. turns (pad_class l n m base) 6 row) (omega arith) (omega arith) (classes_within base fits heap 0 6 (omega arith) (pad_class l n m base) class_only)))
        (λ none. only_more base.first (base.first + base_cells base) (pad_leaves l n m base p) (omega arith) (omega arith) leaves_only)

    zero_only : (z : ℕ) (part : ZeroPart) → Only (zero_position base z) (zero_position base z + 1) (pad_part l n m base p part z)
    unfolding pad_part_at
    zero_only z part =
        let x : ℕ = zero_position base z in
        only_cond x (x + 1) (padding_meets m p part.offset (last_of part.offset part.size)) (λ row. put_zero row (zero_position base z) (any_zero l n)) (λ row. row) (only_put x (x + 1) x (λ row. First (any_zero l n)) (omega arith) (omega arith)) (only_same x (x + 1))

    pub pad_zeros_only : Only (base.first + base_cells base) ((base.first + base_cells base) + length base.shape.zeros) (pad_zeros l n m base p)
    unfolding pad_zeros
    pad_zeros_only = zeros_within base fits (λ part z. pad_part l n m base p part z) zero_only

    pub padding_only : Only base.first ((base.first + base_cells base) + length base.shape.zeros) (write_padding l n m base p)
    unfolding write_padding
    padding_only = only_then base.first ((base.first + base_cells base) + length base.shape.zeros) (pad_cells l n m base p) (pad_zeros l n m base p)
        (only_more base.first ((base.first + base_cells base) + length base.shape.zeros) (pad_cells l n m base p) (omega arith) (omega arith) cells_only)
        (only_more base.first ((base.first + base_cells base) + length base.shape.zeros) (pad_zeros l n m base p) (omega arith) (omega arith) pad_zeros_only)

  pub base_only : (r : Route) (p : Padded) (exact : Option Exact) (padding : Bool) → Only base.first ((base.first + base_cells base) + length base.shape.zeros) (finish_base l n r p exact padding base)
  unfolding finish_base
  base_only r p exact padding =
      let lo : ℕ = base.first in
      let hi : ℕ = (base.first + base_cells base) + length base.shape.zeros in
      only_then lo hi (copy_zeros l n base (copied_window r.to p.size) exact) (λ row. cond padding (write_padding l n r.model base p row) row)
      (only_more lo hi (copy_zeros l n base (copied_window r.to p.size) exact) (omega arith) (omega arith) (zeros_only (copied_window r.to p.size) exact))
      (only_cond lo hi padding (write_padding l n r.model base p) (λ row. row) (padding_only r.model p) (only_same lo hi))

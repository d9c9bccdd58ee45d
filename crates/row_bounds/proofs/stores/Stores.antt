-- Stores of values from a floor on leave rows from it on.
use Rattle.std.specs.Prelude.{◌+◌, ℤ, Bool, true, false, cond, Option, Some, None, List}
use Rattle.cc_base.specs.Lattices.{LatticeOf}
use Rattle.cc_base.specs.IntegerDomains.{IntegersOf}
use Rattle.c_layout.specs.declared.data_model.Model.{Model}
use Rattle.c_layout.specs.declared.leaf_lists.Class.{Class}
use Rattle.c_layout.specs.declared.leaf_lists.Class.TheVariants.{Char}
use Rattle.c_layout.specs.declared.shapes.BaseInfo.{BaseInfo}
use Rattle.pointer_domain.specs.declared.base_sets.Bases.{Bases}
use Rattle.pointer_domain.specs.declared.pointer_sets.Pointers.{Pointers}
use Rattle.value_domain.specs.declared.values.values.Value as values
use Rattle.store_cells.specs.declared.access_windows.Window.{Window}
use Rattle.store.specs.declared.stores.Write.{Write}
use Rattle.store_cells.specs.AccessWindows.{window_of}
use Rattle.store_cells.specs.CellReads.{as_stored}
use Rattle.store_cells.specs.ClassNumbers.{class_number, class_at, same_class, is_pointer}
use Rattle.store.specs.LeafSelection.{is_selected, is_other}
use Rattle.store.specs.Loads.{reaches_class}
use Rattle.store_objects.specs.LiveBases.{has_base}
use Rattle.store_cells.specs.RowPositions.{leaf_position, class_position}
use Rattle.store_cells.specs.ScalarTypes.{class_bytes, kind_of}
use Rattle.store.specs.Stores.{cell_value, is_strong, store_leaf_at, store_leaf, store_leaves, store_class_cell, store_other_leaf_at, store_other_leaf, store_other_leaves, store_other_class, store_other_classes, store_other_bytes, store_own, store_character, store_wider, store_base, store_if, store_to, store_all, stored_value, write_to, reached_of, store_access, store_within, store}
use Rattle.row_bounds.specs.Stores.Floors.{IsValueFrom, KeepsFrom, LeavesFrom}
use Rattle.row_bounds.proofs.stores.Ranges.{FloorLaws}
use Rattle.row_bounds.proofs.stores.Values.{stored_from, byte_written_from}
use Rattle.row_bounds.proofs.stores.Rows.{if_from, row_walk, row_turns, left_if, character_put, zeros_forgotten, join_keeps, write_keeps}

module _ {I : Type 0} {l : LatticeOf I} {n : IntegersOf I} {stands : I → ℤ → Type 0} {floor : ℤ} (k : FloorLaws l n stands floor) (m : Model) where
  -- ---- one base

  module _ (write : Write I) (h : (to : Bool) → IsValueFrom n floor (cell_value n m write to)) (base : BaseInfo) where
    leaves_kept : KeepsFrom n floor (store_leaves l n m base write)
    unfolding store_leaves store_leaf_at
    leaves_kept row j = row_walk n floor (store_leaf l n m base write)
        (λ leaf at x q. if_from n floor (is_selected leaf write.access.class write.access.window) _ x (write_keeps k (leaf_position base at) (cell_value n m write leaf.signed) (is_strong leaf write) (h leaf.signed) x q) q)
        0 base.shape.cells row j

    class_kept : KeepsFrom n floor (store_class_cell l n m base write)
    unfolding store_class_cell
    class_kept row j = if_from n floor (reaches_class base write.access) _ row (join_keeps k (class_position base (class_number write.access.class)) (cell_value n m write true) (h true) row j) j

    own_kept : KeepsFrom n floor (store_own l n m base write)
    unfolding store_own
    own_kept row j = class_kept (store_leaves l n m base write row) (leaves_kept row j)

    others_kept : KeepsFrom n floor (store_other_leaves l n m base write)
    unfolding store_other_leaves store_other_leaf_at
    others_kept row j = row_walk n floor (store_other_leaf l n m base write)
        (λ leaf at x q. if_from n floor (is_other m leaf write.access.window) _ x (join_keeps k (leaf_position base at) _ (byte_written_from k m leaf.class leaf.signed write.value.labels) x q) q)
        0 base.shape.cells row j

    classes_kept : KeepsFrom n floor (store_other_classes l n m base write.value.labels)
    unfolding store_other_classes store_other_class
    classes_kept row j = row_turns n floor (store_other_class l n m base write.value.labels) (λ at x q. join_keeps k (class_position base (at + 1)) _ (byte_written_from k m (class_at (at + 1)) true write.value.labels) x q) 5 row j

    bytes_kept : KeepsFrom n floor (store_other_bytes l n m base write)
    unfolding store_other_bytes
    bytes_kept row j = if_from n floor base.shape.heap _ _ (classes_kept (store_other_leaves l n m base write row) (others_kept row j)) (others_kept row j)

    base_kept : KeepsFrom n floor (store_base l n m base write)
    unfolding store_base store_character store_wider
    base_kept row j =
        let own = own_kept row j in
        if_from n floor (same_class write.access.class Char) _ _ (character_put n floor l base write.access.window _ write.alone _ (bytes_kept (store_own l n m base write row) own))
        (if_from n floor base.shape.heap _ _ (zeros_forgotten n floor l base write.access.window (store_own l n m base write row) own) own)

  -- ---- all bases

  all_kept : (bases : List BaseInfo) (set : Bases) (write : Write I) → ((to : Bool) → IsValueFrom n floor (cell_value n m write to)) → KeepsFrom n floor (store_all l n m bases set write)
  unfolding store_all store_if
  all_kept bases set write h row j = row_walk n floor (store_to l n m set write) (λ base number x q. if_from n floor (has_base set number) _ x (base_kept write h base x q) q) 0 bases row j

  -- flags and labels do not matter
  bare : (class : Class) (to : Bool) (v : values.Value I) → IsValueFrom n floor (as_stored n m v class to) → IsValueFrom n floor (as_stored n m (stored_value class v) class to)
  bare class to v h = by_class (is_pointer class) h
    where
      by_class : (t : Bool) → IsValueFrom n floor (cond t v (record v { num = n.convert v.num (kind_of m class to) })) → IsValueFrom n floor (cond t (stored_value class v) (record (stored_value class v) { num = n.convert v.num (kind_of m class to) }))
      by_class true h = h
      by_class false h = h

  within_kept : (bases : List BaseInfo) (set : Bases) (class : Class) (signed : Bool) (v : values.Value I) → ((to : Bool) → IsValueFrom n floor (as_stored n m v class to)) → (w : Option Window) → LeavesFrom n floor (λ row. store_within l n m bases set class signed v row w)
  unfolding store_access
  within_kept bases set class signed v h None row j = tt
  within_kept bases set class signed v h (Some w) row j = left_if n floor _ (Some _) (all_kept bases (reached_of l n bases row set) (write_to bases (reached_of l n bases row set) (record { class = class; signed = signed; window = w }) v) (λ to. bare class to v (h to)) row j)

  -- a store of a value that in the types of cells is from the floor on
  pub typed_store_keeps : (bases : List BaseInfo) (p : Pointers I) (class : Class) (signed : Bool) (v : values.Value I) → ((to : Bool) → IsValueFrom n floor (as_stored n m v class to)) → LeavesFrom n floor (store l n m bases p class signed v)
  unfolding store
  typed_store_keeps bases p class signed v h row j = within_kept bases p.bases class signed v h (window_of n p (class_bytes m class)) row j

  -- a store of a value from the floor on
  pub store_keeps : (bases : List BaseInfo) (p : Pointers I) (class : Class) (signed : Bool) (v : values.Value I) → IsValueFrom n floor v → LeavesFrom n floor (store l n m bases p class signed v)
  store_keeps bases p class signed v h row j = typed_store_keeps bases p class signed v (λ to. stored_from k m v class to h) row j

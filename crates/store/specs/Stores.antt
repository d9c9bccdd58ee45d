-- Stores.
use Rattle.std.specs.Prelude.{ℕ, ◌+◌, pos, Bool, true, false, cond, not, ◌&&◌, ◌||◌, ◌==◌, Option, Some, None, is_none, List}
use Rattle.cc_base.specs.Lattices.{LatticeOf}
use Rattle.cc_base.specs.IntegerDomains.{IntegersOf}
use Rattle.cc_base.specs.declared.integer_operators.Rel.TheVariants.{Eq}
use Rattle.c_layout.specs.declared.data_model.Model.{Model}
use Rattle.c_layout.specs.declared.leaf_lists.Class.{Class}
use Rattle.c_layout.specs.declared.leaf_lists.Class.TheVariants.{Char}
use Rattle.c_layout.specs.declared.leaf_lists.Leaf.{Leaf}
use Rattle.c_layout.specs.declared.shapes.BaseInfo.{BaseInfo}
use Rattle.pointer_domain.specs.declared.base_sets.Bases.{Bases}
use Rattle.pointer_domain.specs.declared.pointer_sets.Pointers.{Pointers}
use Rattle.pointer_domain.specs.PointerTables.{is_any}
use Rattle.value_domain.specs.declared.values.values.Value.{Value}
use Rattle.value_domain.specs.declared.values.label_sets.Labels.{Labels}
use Rattle.value_domain.specs.declared.values.row_cells.Cell.{Cell}
use Rattle.store_cells.specs.declared.access_windows.Window.{Window}
use Rattle.store_cells.specs.declared.cell_reads.Access.{Access}
use Rattle.store.specs.declared.stores.Write.{Write}
use Rattle.store_cells.specs.ScalarTypes.{class_bytes}
use Rattle.store_cells.specs.ClassNumbers.{class_number, class_at, same_class, is_pointer}
use Rattle.store_cells.specs.Walks.{walk, turns}
use Rattle.store_cells.specs.RowPositions.{leaf_position, class_position, join_value, write_value}
use Rattle.store_cells.specs.AccessWindows.{window_of, window_is_one}
use Rattle.store.specs.LeafSelection.{is_selected, selected_count, is_other, meets_padding}
use Rattle.store_cells.specs.CellReads.{as_stored}
use Rattle.store_cells.specs.ByteWrites.{byte_written}
use Rattle.store_cells.specs.FirstZeroWrites.{put_character, forget_zeros}
use Rattle.store_objects.specs.LiveBases.{has_base, is_one_instance, live_of, writable_of}
use Rattle.store.specs.Loads.{reaches_class, labels_of}

-- ---- whether there is a place

abbrev pub is_other_or : Model → Window → Leaf → ℕ → Bool → Bool
is_other_or m w leaf at found = found || is_other m leaf w

-- a byte of a leaf of another class lies in the window
unfoldable pub any_other : Model → List Leaf → Window → Bool
any_other m leaves w = walk (is_other_or m w) 0 leaves false

-- a character goes to bytes of cells of other classes, or to bytes of no cell
unfoldable pub has_other_place : Model → BaseInfo → Window → Bool
has_other_place m base w = base.shape.heap || (any_other m base.shape.cells w || meets_padding m base.shape.cells w base.size)

unfoldable pub has_own_place : BaseInfo → Access → Bool
has_own_place base access = not (selected_count base.shape.cells access.class access.window == 0) || reaches_class base access

unfoldable pub has_place : Model → BaseInfo → Access → Bool
has_place m base access = has_own_place base access || (same_class access.class Char && has_other_place m base access.window)

abbrev pub has_place_or : Model → Bases → Access → BaseInfo → ℕ → Bool → Bool
has_place_or m set access base number found = found || (has_base set number && has_place m base access)

-- some base of the set has a place for the access
unfoldable pub any_place : Model → List BaseInfo → Bases → Access → Bool
any_place m bases set access = walk (has_place_or m set access) 0 bases false

module _ {I : Type 0} where
  -- ---- what is stored

  -- there is no value of the class
  abbrev pub is_nothing : IntegersOf I → Class → Value I → Bool
  is_nothing n class v = cond (is_pointer class) (not (is_any v.pointer) && not v.pointer.ended) (is_none (n.bounds v.num))

  -- a pointer without labels, or a number with its labels
  abbrev pub stored_value : Class → Value I → Value I
  stored_value class v = record v { indeterminate = false; labels = labels_of class v.labels }

  -- in the type of a cell
  abbrev pub cell_value : IntegersOf I → Model → Write I → Bool → Value I
  cell_value n m write signed = as_stored n m write.value write.access.class signed

  -- the leaf is one place, and the one that is written
  abbrev pub is_strong : Leaf → Write I → Bool
  is_strong leaf write = write.alone && (window_is_one write.access.window && (leaf.count == 1))

  -- ---- a base

  unfoldable pub store_leaf_at : LatticeOf I → IntegersOf I → Model → Write I → Leaf → ℕ → List (Cell I) → List (Cell I)
  store_leaf_at l n m write leaf position row = cond (is_selected leaf write.access.class write.access.window)
      (write_value l n row position (cell_value n m write leaf.signed) (is_strong leaf write)) row

  abbrev pub store_leaf : LatticeOf I → IntegersOf I → Model → BaseInfo → Write I → Leaf → ℕ → List (Cell I) → List (Cell I)
  store_leaf l n m base write leaf at row = store_leaf_at l n m write leaf (leaf_position base at) row

  unfoldable pub store_leaves : LatticeOf I → IntegersOf I → Model → BaseInfo → Write I → List (Cell I) → List (Cell I)
  store_leaves l n m base write row = walk (store_leaf l n m base write) 0 base.shape.cells row

  unfoldable pub store_class_cell : LatticeOf I → IntegersOf I → Model → BaseInfo → Write I → List (Cell I) → List (Cell I)
  store_class_cell l n m base write row = cond (reaches_class base write.access)
      (join_value l n row (class_position base (class_number write.access.class)) (cell_value n m write true)) row

  unfoldable pub store_other_leaf_at : LatticeOf I → IntegersOf I → Model → Write I → Leaf → ℕ → List (Cell I) → List (Cell I)
  store_other_leaf_at l n m write leaf position row = cond (is_other m leaf write.access.window)
      (join_value l n row position (byte_written l n m leaf.class leaf.signed write.value.labels)) row

  abbrev pub store_other_leaf : LatticeOf I → IntegersOf I → Model → BaseInfo → Write I → Leaf → ℕ → List (Cell I) → List (Cell I)
  store_other_leaf l n m base write leaf at row = store_other_leaf_at l n m write leaf (leaf_position base at) row

  unfoldable pub store_other_leaves : LatticeOf I → IntegersOf I → Model → BaseInfo → Write I → List (Cell I) → List (Cell I)
  store_other_leaves l n m base write row = walk (store_other_leaf l n m base write) 0 base.shape.cells row

  unfoldable pub store_other_class : LatticeOf I → IntegersOf I → Model → BaseInfo → Labels → ℕ → List (Cell I) → List (Cell I)
  store_other_class l n m base labels at row = join_value l n row (class_position base (at + 1)) (byte_written l n m (class_at (at + 1)) true labels)

  unfoldable pub store_other_classes : LatticeOf I → IntegersOf I → Model → BaseInfo → Labels → List (Cell I) → List (Cell I)
  store_other_classes l n m base labels row = turns (store_other_class l n m base labels) 5 row

  -- to bytes of cells of other classes; to bytes of no cell it changes nothing
  unfoldable pub store_other_bytes : LatticeOf I → IntegersOf I → Model → BaseInfo → Write I → List (Cell I) → List (Cell I)
  store_other_bytes l n m base write row = cond base.shape.heap
      (store_other_classes l n m base write.value.labels (store_other_leaves l n m base write row)) (store_other_leaves l n m base write row)

  -- to the cells of the value's class
  unfoldable pub store_own : LatticeOf I → IntegersOf I → Model → BaseInfo → Write I → List (Cell I) → List (Cell I)
  store_own l n m base write row = store_class_cell l n m base write (store_leaves l n m base write row)

  unfoldable pub store_character : LatticeOf I → IntegersOf I → Model → BaseInfo → Write I → List (Cell I) → List (Cell I)
  store_character l n m base write row = put_character l n base write.access.window (n.compare Eq (cell_value n m write write.access.signed).num (n.one (pos 0))) write.alone (store_other_bytes l n m base write row)

  -- other stores to the heap hide its first zero
  unfoldable pub store_wider : LatticeOf I → IntegersOf I → BaseInfo → Window → List (Cell I) → List (Cell I)
  store_wider l n base w row = cond base.shape.heap (forget_zeros l n base w row) row

  unfoldable pub store_base : LatticeOf I → IntegersOf I → Model → BaseInfo → Write I → List (Cell I) → List (Cell I)
  store_base l n m base write row = cond (same_class write.access.class Char) (store_character l n m base write (store_own l n m base write row))
      (store_wider l n base write.access.window (store_own l n m base write row))

  -- ---- all bases

  unfoldable pub store_if : LatticeOf I → IntegersOf I → Model → Bool → Write I → BaseInfo → List (Cell I) → List (Cell I)
  store_if l n m wanted write base row = cond wanted (store_base l n m base write row) row

  abbrev pub store_to : LatticeOf I → IntegersOf I → Model → Bases → Write I → BaseInfo → ℕ → List (Cell I) → List (Cell I)
  store_to l n m set write base number row = store_if l n m (has_base set number) write base row

  unfoldable pub store_all : LatticeOf I → IntegersOf I → Model → List BaseInfo → Bases → Write I → List (Cell I) → List (Cell I)
  store_all l n m bases set write row = walk (store_to l n m set write) 0 bases row

  -- the write of a value, with a mark where the set has one base of one instance
  abbrev pub write_to : List BaseInfo → Bases → Access → Value I → Write I
  write_to bases set access v = record { access = access; value = stored_value access.class v; alone = is_one_instance bases set }

  -- there is something to store, and a place for it
  unfoldable pub can_store : IntegersOf I → Model → List BaseInfo → Bases → Access → Value I → Bool
  can_store n m bases set access v = not (is_nothing n access.class v) && any_place m bases set access

  unfoldable pub store_access : LatticeOf I → IntegersOf I → Model → List BaseInfo → Bases → Access → Value I → List (Cell I) → Option (List (Cell I))
  store_access l n m bases set access v row = cond (can_store n m bases set access v) (Some (store_all l n m bases set (write_to bases set access v) row)) None

  -- the bases that may be live and are no literals
  abbrev pub reached_of : LatticeOf I → IntegersOf I → List BaseInfo → List (Cell I) → Bases → Bases
  reached_of l n bases row set = writable_of bases (live_of l n bases row set)

  abbrev pub store_within : LatticeOf I → IntegersOf I → Model → List BaseInfo → Bases → Class → Bool → Value I → List (Cell I) → Option Window → Option (List (Cell I))
  store_within l n m bases set class signed v row None = None
  store_within l n m bases set class signed v row (Some w) = store_access l n m bases (reached_of l n bases row set) (record { class = class; signed = signed; window = w }) v row

  -- the row after a store through pointers; None where there is nothing to store or no place for it
  unfoldable pub store : LatticeOf I → IntegersOf I → Model → List BaseInfo → Pointers I → Class → Bool → Value I → List (Cell I) → Option (List (Cell I))
  store l n m bases p class signed v row = store_within l n m bases p.bases class signed v row (window_of n p (class_bytes m class))

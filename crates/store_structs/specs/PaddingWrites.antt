-- What the padding of a copied struct makes of the cells that it may meet.
use Rattle.std.specs.Prelude.{ℕ, ◌+◌, ◌-◌, ◌*◌, Bool, true, false, cond, not, ◌&&◌, ◌==◌, nat_lt, Option, Some, None, List}
use Rattle.cc_base.specs.Lattices.{LatticeOf}
use Rattle.cc_base.specs.IntegerDomains.{IntegersOf}
use Rattle.c_layout.specs.StructViews.{StructView, structs_view}
use Rattle.c_layout.specs.declared.data_model.Model.{Model}
use Rattle.c_layout.specs.declared.leaf_lists.Class.{Class}
use Rattle.c_layout.specs.declared.leaf_lists.Leaf.{Leaf}
use Rattle.c_layout.specs.declared.shapes.BaseInfo.{BaseInfo}
use Rattle.c_layout.specs.declared.shapes.ZeroPart.{ZeroPart}
use Rattle.value_domain.specs.declared.values.values.Value.{Value}
use Rattle.value_domain.specs.declared.values.row_cells.Cell.{Cell}
use Rattle.value_domain.specs.Values.LabelSets.{all_labels}
use Rattle.store_cells.specs.declared.access_windows.Window.{Window}
use Rattle.store_cells.specs.ScalarTypes.{class_bytes, kind_of}
use Rattle.store_cells.specs.ClassNumbers.{class_at, is_pointer}
use Rattle.store_cells.specs.Walks.{walk, turns}
use Rattle.store_cells.specs.RowPositions.{capped, leaf_position, class_position, zero_position, join_value, put_zero}
use Rattle.store_cells.specs.AccessWindows.{window_between, window_met}
use Rattle.store.specs.LeafSelection.{covered_more}
use Rattle.store_cells.specs.CellReads.{whole_range}
use Rattle.store_cells.specs.ByteWrites.{null_pointer}
use Rattle.store_cells.specs.FirstZeroWrites.{last_of, any_zero}
use Rattle.store_structs.specs.declared.padding_writes.Padded as code
use Rattle.store_struct_leaves.specs.CopyPlaces.{any_below}
use Rattle.store_structs.specs.LeafNumbers.{struct_leaf}

-- a struct whose bytes are copied: the unit's structs, its number, its size, how many leaves it has, and where the
-- copy can begin
pub record Padded : Type 0 where
  pub structs : List StructView
  pub pointer : ℕ
  pub index : ℕ
  pub size : ℕ
  pub leaves : ℕ
  pub start : Window

abbrev pub padded_view : code.Padded → Padded
padded_view p = record { structs = structs_view p.table.structs.now; pointer = p.table.pointer; index = p.index; size = p.size; leaves = p.leaves; start = p.start }

-- with the bytes of one more leaf, if there is one
abbrev pub covered_by : Model → ℕ → ℕ → Option Leaf → ℕ → ℕ
covered_by m lo end None covered = covered
covered_by m lo end (Some leaf) covered = covered_more m lo end leaf 0 covered

abbrev pub covered_leaf : Model → Padded → ℕ → ℕ → ℕ → ℕ → ℕ
covered_leaf m p lo end number covered = covered_by m lo end (struct_leaf p.structs p.pointer p.index number) covered

-- how many bytes of the struct's leaves lie in a window
unfoldable pub leaf_bytes : Model → Padded → Window → ℕ
leaf_bytes m p w = turns (covered_leaf m p w.lo (capped (w.hi + 1))) p.leaves 0

abbrev pub is_padded_in : Model → Padded → Window → Bool
is_padded_in m p w = not (p.size == 0) && nat_lt (leaf_bytes m p w) (capped ((w.hi - w.lo) + 1))

abbrev pub padded_met : Model → Padded → Option Window → Bool
padded_met m p None = false
padded_met m p (Some met) = is_padded_in m p met

-- a byte of the struct's padding lies in a window of offsets from its start
unfoldable pub has_padding_in : Model → Padded → Window → Bool
has_padding_in m p w = padded_met m p (window_met w 0 (p.size - 1))

unfoldable pub has_padding : Model → Padded → Bool
has_padding m p = has_padding_in m p (window_between 0 (p.size - 1))

-- a byte of padding may stand at one of the bytes from lo to hi of the destination
unfoldable pub padding_meets : Model → Padded → ℕ → ℕ → Bool
padding_meets m p lo hi = cond (nat_lt hi p.start.lo) false (has_padding_in m p (window_between (lo - p.start.hi) (hi - p.start.lo)))

abbrev pub place_of : Leaf → ℕ → ℕ
place_of leaf place = capped (leaf.offset + capped (place * leaf.stride))

abbrev pub place_padded : Model → Padded → Leaf → ℕ → Bool
place_padded m p leaf place = padding_meets m p (place_of leaf place) (capped (place_of leaf place + (class_bytes m leaf.class - 1)))

-- a byte of padding may stand at a byte of the leaf
unfoldable pub meets_leaf : Model → Padded → Leaf → Bool
meets_leaf m p leaf = any_below (place_padded m p leaf) leaf.count

module _ {I : Type 0} where
  abbrev pub unknown_pointer : LatticeOf I → Value I
  unknown_pointer l = record { num = l.least; pointer = null_pointer l; indeterminate = true; labels = all_labels }

  -- what a byte of which nothing is known makes of a cell
  abbrev pub unknown_value : LatticeOf I → IntegersOf I → Model → Class → Bool → Value I
  unknown_value l n m class signed = cond (is_pointer class) (unknown_pointer l) (whole_range l n (kind_of m class signed) all_labels true)

  unfoldable pub pad_leaf_at : LatticeOf I → IntegersOf I → Model → Padded → Leaf → ℕ → List (Cell I) → List (Cell I)
  pad_leaf_at l n m p leaf position row = cond (meets_leaf m p leaf) (join_value l n row position (unknown_value l n m leaf.class leaf.signed)) row

  abbrev pub pad_leaf : LatticeOf I → IntegersOf I → Model → BaseInfo → Padded → Leaf → ℕ → List (Cell I) → List (Cell I)
  pad_leaf l n m base p leaf at row = pad_leaf_at l n m p leaf (leaf_position base at) row

  unfoldable pub pad_leaves : LatticeOf I → IntegersOf I → Model → BaseInfo → Padded → List (Cell I) → List (Cell I)
  pad_leaves l n m base p row = walk (pad_leaf l n m base p) 0 base.shape.cells row

  unfoldable pub pad_class : LatticeOf I → IntegersOf I → Model → BaseInfo → ℕ → List (Cell I) → List (Cell I)
  pad_class l n m base at row = join_value l n row (class_position base at) (unknown_value l n m (class_at at) true)

  unfoldable pub pad_classes : LatticeOf I → IntegersOf I → Model → BaseInfo → List (Cell I) → List (Cell I)
  pad_classes l n m base row = turns (pad_class l n m base) 6 row

  unfoldable pub pad_part_at : LatticeOf I → IntegersOf I → Model → Padded → ZeroPart → ℕ → List (Cell I) → List (Cell I)
  pad_part_at l n m p part position row = cond (padding_meets m p part.offset (last_of part.offset part.size)) (put_zero row position (any_zero l n)) row

  abbrev pub pad_part : LatticeOf I → IntegersOf I → Model → BaseInfo → Padded → ZeroPart → ℕ → List (Cell I) → List (Cell I)
  pad_part l n m base p part at row = pad_part_at l n m p part (zero_position base at) row

  unfoldable pub pad_zeros : LatticeOf I → IntegersOf I → Model → BaseInfo → Padded → List (Cell I) → List (Cell I)
  pad_zeros l n m base p row = walk (pad_part l n m base p) 0 base.shape.zeros row

  unfoldable pub pad_cells : LatticeOf I → IntegersOf I → Model → BaseInfo → Padded → List (Cell I) → List (Cell I)
  pad_cells l n m base p row = cond base.shape.heap (pad_classes l n m base (pad_leaves l n m base p row)) (pad_leaves l n m base p row)

  -- what the padding of the copied struct makes of a base of the destination
  unfoldable pub write_padding : LatticeOf I → IntegersOf I → Model → BaseInfo → Padded → List (Cell I) → List (Cell I)
  write_padding l n m base p row = pad_zeros l n m base p (pad_cells l n m base p row)

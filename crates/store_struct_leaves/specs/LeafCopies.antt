-- One leaf of a copied struct: read from the source, written to the destination.
use Rattle.std.specs.Prelude.{ℕ, ◌+◌, Bool, true, false, cond, not, ◌&&◌, ◌||◌, ◌==◌, Option, Some, None, List}
use Rattle.cc_base.specs.Lattices.{LatticeOf}
use Rattle.cc_base.specs.IntegerDomains.{IntegersOf}
use Rattle.c_layout.specs.declared.data_model.Model.{Model}
use Rattle.c_layout.specs.declared.leaf_lists.Class.TheVariants.{Char}
use Rattle.c_layout.specs.declared.leaf_lists.Leaf.{Leaf}
use Rattle.c_layout.specs.declared.shapes.BaseInfo.{BaseInfo}
use Rattle.pointer_domain.specs.declared.base_sets.Bases.{Bases}
use Rattle.value_domain.specs.declared.values.values.Value.{Value}
use Rattle.value_domain.specs.declared.values.row_cells.Cell.{Cell}
use Rattle.value_domain.specs.Values.LabelSets.{all_labels}
use Rattle.store_cells.specs.ScalarTypes.{kind_of}
use Rattle.store_cells.specs.ClassNumbers.{class_number, class_at, same_class}
use Rattle.store_cells.specs.Walks.{walk, turns}
use Rattle.store_cells.specs.NearValues.{near_value}
use Rattle.store_cells.specs.RowPositions.{leaf_position, class_position, value_at, join_value, write_value}
use Rattle.store.specs.LeafSelection.{meets_padding}
use Rattle.store_cells.specs.CellReads.{joined, whole_range, as_read, as_stored, byte_read}
use Rattle.store_cells.specs.ByteWrites.{byte_written}
use Rattle.store.specs.LiveBases.{has_base}
use Rattle.store.specs.Loads.{joined_if}
use Rattle.store_struct_leaves.specs.declared.copy_places.Span.{Span}
use Rattle.store_struct_leaves.specs.declared.leaf_copies.LeafAccess.{LeafAccess}
use Rattle.store_struct_leaves.specs.CopyPlaces.{any_below, span_is_one, span_joined, span_window, is_reached, is_touched, reached_count, span_has_stray}

-- ---- which cells a leaf is read from and written to

abbrev pub window_padded : Model → BaseInfo → Span → ℕ → Bool
window_padded m base s number = meets_padding m base.shape.cells (span_window s number) base.size

unfoldable pub any_padded : Model → BaseInfo → Span → Bool
any_padded m base s = any_below (window_padded m base s) s.count

-- an offset of the span is one of a byte of no leaf
unfoldable pub span_meets_padding : Model → BaseInfo → Span → Bool
span_meets_padding m base s = any_padded m base (span_joined s)

unfoldable pub reaches_class : BaseInfo → LeafAccess → Bool
reaches_class base access = base.shape.heap && span_has_stray base.shape.cells access.class access.span

abbrev pub is_touched_or : Model → Span → Leaf → ℕ → Bool → Bool
is_touched_or m s leaf at found = found || is_touched m leaf s

unfoldable pub any_touched : Model → List Leaf → Span → Bool
any_touched m leaves s = walk (is_touched_or m s) 0 leaves false

unfoldable pub has_own_place : BaseInfo → LeafAccess → Bool
has_own_place base access = not (reached_count base.shape.cells access.class access.span == 0) || reaches_class base access

unfoldable pub has_other_place : Model → BaseInfo → Span → Bool
has_other_place m base s = base.shape.heap || (any_touched m base.shape.cells s || span_meets_padding m base s)

unfoldable pub has_place : Model → BaseInfo → LeafAccess → Bool
has_place m base access = has_own_place base access || (same_class access.class Char && has_other_place m base access.span)

abbrev pub has_place_or : Model → Bases → LeafAccess → BaseInfo → ℕ → Bool → Bool
has_place_or m set access base number found = found || (has_base set number && has_place m base access)

unfoldable pub any_place : Model → List BaseInfo → Bases → LeafAccess → Bool
any_place m bases set access = walk (has_place_or m set access) 0 bases false

-- the leaf of an object is one place, and the one that is written
abbrev pub is_strong : Leaf → LeafAccess → Bool → Bool
is_strong leaf access alone = alone && (span_is_one access.span && (leaf.count == 1))

module _ {I : Type 0} where
  -- ---- reading

  unfoldable pub own_leaf : LatticeOf I → IntegersOf I → Model → LeafAccess → Leaf → Value I → Option (Value I) → Option (Value I)
  own_leaf l n m access leaf v found = joined_if l (is_reached leaf access.class access.span) found (as_read n m v access.class leaf.signed access.signed)

  abbrev pub read_own_leaf : LatticeOf I → IntegersOf I → Model → BaseInfo → List (Cell I) → LeafAccess → Leaf → ℕ → Option (Value I) → Option (Value I)
  read_own_leaf l n m base row access leaf at found = own_leaf l n m access leaf (value_at l n row (leaf_position base at)) found

  unfoldable pub read_class_cell : LatticeOf I → IntegersOf I → Model → BaseInfo → List (Cell I) → LeafAccess → Option (Value I)
  read_class_cell l n m base row access = cond (reaches_class base access)
      (Some (as_read n m (value_at l n row (class_position base (class_number access.class))) access.class true access.signed)) None

  -- from the cells of the leaf's class
  unfoldable pub read_own : LatticeOf I → IntegersOf I → Model → BaseInfo → List (Cell I) → LeafAccess → Option (Value I)
  read_own l n m base row access = walk (read_own_leaf l n m base row access) 0 base.shape.cells (read_class_cell l n m base row access)

  unfoldable pub other_leaf : LatticeOf I → IntegersOf I → Model → LeafAccess → Leaf → Value I → Option (Value I) → Option (Value I)
  other_leaf l n m access leaf v found = joined_if l (is_touched m leaf access.span) found (byte_read l n m v leaf.class access.signed)

  abbrev pub read_other_leaf : LatticeOf I → IntegersOf I → Model → BaseInfo → List (Cell I) → LeafAccess → Leaf → ℕ → Option (Value I) → Option (Value I)
  read_other_leaf l n m base row access leaf at found = other_leaf l n m access leaf (value_at l n row (leaf_position base at)) found

  unfoldable pub read_class_byte : LatticeOf I → IntegersOf I → Model → BaseInfo → List (Cell I) → LeafAccess → ℕ → Option (Value I) → Option (Value I)
  read_class_byte l n m base row access at found = joined l found (Some (byte_read l n m (value_at l n row (class_position base (at + 1))) (class_at (at + 1)) access.signed))

  -- from the class cells of all classes but that of characters, which is the first
  unfoldable pub read_class_bytes : LatticeOf I → IntegersOf I → Model → BaseInfo → List (Cell I) → LeafAccess → Option (Value I)
  read_class_bytes l n m base row access = turns (read_class_byte l n m base row access) 5 None

  unfoldable pub read_padding : LatticeOf I → IntegersOf I → Model → BaseInfo → LeafAccess → Option (Value I)
  read_padding l n m base access = cond (span_meets_padding m base access.span) (Some (whole_range l n (kind_of m Char access.signed) all_labels true)) None

  unfoldable pub read_bytes : LatticeOf I → IntegersOf I → Model → BaseInfo → List (Cell I) → LeafAccess → Option (Value I)
  read_bytes l n m base row access = cond base.shape.heap (read_class_bytes l n m base row access) (read_padding l n m base access)

  -- a character: from cells of other classes, or from bytes of no cell
  unfoldable pub read_others : LatticeOf I → IntegersOf I → Model → BaseInfo → List (Cell I) → LeafAccess → Option (Value I)
  read_others l n m base row access = walk (read_other_leaf l n m base row access) 0 base.shape.cells (read_bytes l n m base row access)

  unfoldable pub read_base : LatticeOf I → IntegersOf I → Model → BaseInfo → List (Cell I) → LeafAccess → Option (Value I)
  read_base l n m base row access = cond (same_class access.class Char) (joined l (read_own l n m base row access) (read_others l n m base row access)) (read_own l n m base row access)

  unfoldable pub read_base_if : LatticeOf I → IntegersOf I → Model → List (Cell I) → Bool → LeafAccess → BaseInfo → Option (Value I) → Option (Value I)
  read_base_if l n m row wanted access base found = cond wanted (joined l found (read_base l n m base row access)) found

  abbrev pub read_from : LatticeOf I → IntegersOf I → Model → List (Cell I) → Bases → LeafAccess → BaseInfo → ℕ → Option (Value I) → Option (Value I)
  read_from l n m row set access base number found = read_base_if l n m row (has_base set number) access base found

  -- what the leaf can be in the source; None where it can be nowhere
  unfoldable pub read_leaf : LatticeOf I → IntegersOf I → Model → List BaseInfo → Bases → List (Cell I) → LeafAccess → Option (Value I)
  read_leaf l n m bases set row access = walk (read_from l n m row set access) 0 bases None

  -- ---- writing

  abbrev pub with_flag : Value I → Bool → Value I
  with_flag v blank = record v { indeterminate = v.indeterminate || blank }

  unfoldable pub write_leaf_at : LatticeOf I → IntegersOf I → Model → LeafAccess → Value I → Bool → Leaf → ℕ → List (Cell I) → List (Cell I)
  write_leaf_at l n m access v alone leaf position row = cond (is_reached leaf access.class access.span)
      (write_value l n row position (as_stored n m v access.class leaf.signed) (is_strong leaf access alone)) row

  abbrev pub write_own_leaf : LatticeOf I → IntegersOf I → Model → BaseInfo → LeafAccess → Value I → Bool → Leaf → ℕ → List (Cell I) → List (Cell I)
  write_own_leaf l n m base access v alone leaf at row = write_leaf_at l n m access v alone leaf (leaf_position base at) row

  unfoldable pub write_class_cell : LatticeOf I → IntegersOf I → Model → BaseInfo → LeafAccess → Value I → List (Cell I) → List (Cell I)
  write_class_cell l n m base access v row = cond (reaches_class base access)
      (join_value l n row (class_position base (class_number access.class)) (as_stored n m v access.class true)) row

  unfoldable pub write_leaves : LatticeOf I → IntegersOf I → Model → BaseInfo → LeafAccess → Value I → Bool → List (Cell I) → List (Cell I)
  write_leaves l n m base access v alone row = walk (write_own_leaf l n m base access v alone) 0 base.shape.cells row

  unfoldable pub write_own : LatticeOf I → IntegersOf I → Model → BaseInfo → LeafAccess → Value I → Bool → List (Cell I) → List (Cell I)
  write_own l n m base access v alone row = write_leaves l n m base access v alone (write_class_cell l n m base access v row)

  unfoldable pub write_other_at : LatticeOf I → IntegersOf I → Model → LeafAccess → Value I → Leaf → ℕ → List (Cell I) → List (Cell I)
  write_other_at l n m access v leaf position row = cond (is_touched m leaf access.span)
      (join_value l n row position (with_flag (byte_written l n m leaf.class leaf.signed v.labels) v.indeterminate)) row

  abbrev pub write_other_leaf : LatticeOf I → IntegersOf I → Model → BaseInfo → LeafAccess → Value I → Leaf → ℕ → List (Cell I) → List (Cell I)
  write_other_leaf l n m base access v leaf at row = write_other_at l n m access v leaf (leaf_position base at) row

  unfoldable pub write_class_byte : LatticeOf I → IntegersOf I → Model → BaseInfo → Value I → ℕ → List (Cell I) → List (Cell I)
  write_class_byte l n m base v at row = join_value l n row (class_position base (at + 1)) (with_flag (byte_written l n m (class_at (at + 1)) true v.labels) v.indeterminate)

  unfoldable pub write_class_bytes : LatticeOf I → IntegersOf I → Model → BaseInfo → Value I → List (Cell I) → List (Cell I)
  write_class_bytes l n m base v row = turns (write_class_byte l n m base v) 5 row

  unfoldable pub write_bytes : LatticeOf I → IntegersOf I → Model → BaseInfo → Value I → List (Cell I) → List (Cell I)
  write_bytes l n m base v row = cond base.shape.heap (write_class_bytes l n m base v row) row

  unfoldable pub write_other_leaves : LatticeOf I → IntegersOf I → Model → BaseInfo → LeafAccess → Value I → List (Cell I) → List (Cell I)
  write_other_leaves l n m base access v row = walk (write_other_leaf l n m base access v) 0 base.shape.cells row

  unfoldable pub write_others : LatticeOf I → IntegersOf I → Model → BaseInfo → LeafAccess → Value I → List (Cell I) → List (Cell I)
  write_others l n m base access v row = write_other_leaves l n m base access v (write_bytes l n m base v row)

  abbrev pub write_others_if : LatticeOf I → IntegersOf I → Model → BaseInfo → LeafAccess → Value I → List (Cell I) → List (Cell I)
  write_others_if l n m base access v row = cond (same_class access.class Char) (write_others l n m base access v row) row

  unfoldable pub write_base : LatticeOf I → IntegersOf I → Model → BaseInfo → LeafAccess → Value I → Bool → List (Cell I) → List (Cell I)
  write_base l n m base access v alone row = write_others_if l n m base access v (write_own l n m base access v alone row)

  unfoldable pub write_base_if : LatticeOf I → IntegersOf I → Model → Bool → LeafAccess → Value I → Bool → BaseInfo → List (Cell I) → List (Cell I)
  write_base_if l n m wanted access v alone base row = cond wanted (write_base l n m base access v alone row) row

  abbrev pub write_to : LatticeOf I → IntegersOf I → Model → Bases → LeafAccess → Value I → Bool → BaseInfo → ℕ → List (Cell I) → List (Cell I)
  write_to l n m set access v alone base number row = write_base_if l n m (has_base set number) access v alone base row

  unfoldable pub write_all : LatticeOf I → IntegersOf I → Model → List BaseInfo → Bases → LeafAccess → Value I → Bool → List (Cell I) → List (Cell I)
  write_all l n m bases set access v alone row = walk (write_to l n m set access v alone) 0 bases row

  -- the row with the leaf in the destination; None where the leaf can be nowhere
  unfoldable pub write_leaf : LatticeOf I → IntegersOf I → Model → List BaseInfo → Bases → LeafAccess → Value I → Bool → List (Cell I) → Option (List (Cell I))
  write_leaf l n m bases set access v alone row = cond (any_place m bases set access) (Some (write_all l n m bases set access (near_value l n v) alone row)) None

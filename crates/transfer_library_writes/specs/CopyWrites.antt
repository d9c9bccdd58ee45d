-- Copying bytes, as `memcpy` and `memmove` do (7.24.2.1, 7.24.2.2).
use Rattle.std.specs.Prelude.{ℕ, ◌==◌, Bool, true, false, cond, not, ◌||◌, Option, Some, None, List}
use Rattle.cc_base.specs.Lattices.{LatticeOf}
use Rattle.cc_base.specs.IntegerDomains.{IntegersOf}
use Rattle.c_layout.specs.declared.data_model.Model.{Model}
use Rattle.c_layout.specs.declared.leaf_lists.Class.{Class}
use Rattle.c_layout.specs.declared.leaf_lists.Class.TheVariants.{Char}
use Rattle.c_layout.specs.declared.leaf_lists.Leaf.{Leaf}
use Rattle.c_layout.specs.declared.shapes.BaseInfo.{BaseInfo}
use Rattle.cfg.specs.declared.programs.Flow.{Flow}
use Rattle.pointer_domain.specs.declared.base_sets.Bases.{Bases}
use Rattle.pointer_domain.specs.declared.pointer_sets.Pointers.{Pointers}
use Rattle.pointer_domain.specs.PointerLattice.{no_pointer, pointer_lattice}
use Rattle.value_domain.specs.declared.values.values.Value.{Value}
use Rattle.value_domain.specs.declared.values.row_cells.Cell.{Cell}
use Rattle.value_domain.specs.Values.LabelSets.{no_labels, all_labels, labels_join}
use Rattle.store_cells.specs.declared.access_windows.Window.{Window}
use Rattle.store_cells.specs.ByteWrites.{null_pointer}
use Rattle.store_cells.specs.CellReads.{whole_range}
use Rattle.store_cells.specs.ClassNumbers.{class_at, is_pointer}
use Rattle.store_cells.specs.FirstZeroWrites.{forget_zeros}
use Rattle.store.specs.LeafSelection.{is_overlapped, has_stray, meets_padding}
use Rattle.store.specs.LiveBases.{has_base}
use Rattle.store_cells.specs.RowPositions.{leaf_position, class_position, value_at, join_value}
use Rattle.store_cells.specs.ScalarTypes.{kind_of}
use Rattle.store_cells.specs.Walks.{walk, turns}
use Rattle.transfer_library_writes.specs.declared.copied_bytes.CopiedBytes.{CopiedBytes}
use Rattle.transfer_library_writes.specs.declared.copied_bytes.CopyWrite.{CopyWrite}

-- the class cell of characters is met only where a byte is no character leaf
abbrev pub is_read_class : Bool → ℕ → Bool
is_read_class stray number = not (number == 0) || stray

module _ {I : Type 0} where
  -- ---- what is read

  abbrev pub no_bytes : LatticeOf I → CopiedBytes I
  no_bytes l = record { indeterminate = false; labels = no_labels; pointers = no_pointer l; numbers = false }

  -- the bytes of a cell besides others
  abbrev pub with_cell : LatticeOf I → CopiedBytes I → Value I → Class → CopiedBytes I
  with_cell l found v class = record {
    indeterminate = found.indeterminate || v.indeterminate;
    labels = labels_join found.labels v.labels;
    pointers = cond (is_pointer class) ((pointer_lattice l).join found.pointers v.pointer) found.pointers;
    numbers = found.numbers || not (is_pointer class);
  }

  -- bytes of which nothing is known, besides others
  abbrev pub with_padding : CopiedBytes I → Bool → CopiedBytes I
  with_padding found met = cond met (record { indeterminate = true; labels = all_labels; pointers = found.pointers; numbers = true }) found

  unfoldable pub with_leaf : LatticeOf I → IntegersOf I → Model → BaseInfo → List (Cell I) → Window → Leaf → ℕ → CopiedBytes I → CopiedBytes I
  with_leaf l n m base row w leaf number found = cond (is_overlapped m leaf w) (with_cell l found (value_at l n row (leaf_position base number)) leaf.class) found

  unfoldable pub with_leaves : LatticeOf I → IntegersOf I → Model → BaseInfo → List (Cell I) → Window → CopiedBytes I → CopiedBytes I
  with_leaves l n m base row w found = walk (with_leaf l n m base row w) 0 base.shape.cells found

  abbrev pub with_class : LatticeOf I → IntegersOf I → BaseInfo → List (Cell I) → Bool → ℕ → CopiedBytes I → CopiedBytes I
  with_class l n base row stray number found = cond (is_read_class stray number) (with_cell l found (value_at l n row (class_position base number)) (class_at number)) found

  abbrev pub as_numbers : CopiedBytes I → CopiedBytes I
  as_numbers found = record found { numbers = true }

  unfoldable pub with_class_cells : LatticeOf I → IntegersOf I → BaseInfo → List (Cell I) → Window → CopiedBytes I → CopiedBytes I
  with_class_cells l n base row w found = as_numbers (turns (with_class l n base row (has_stray base.shape.cells Char w)) 6 found)

  abbrev pub with_rest : LatticeOf I → IntegersOf I → Model → BaseInfo → List (Cell I) → Window → CopiedBytes I → CopiedBytes I
  with_rest l n m base row w found = cond base.shape.heap (with_class_cells l n base row w found) (with_padding found (meets_padding m base.shape.cells w base.size))

  unfoldable pub with_base : LatticeOf I → IntegersOf I → Model → BaseInfo → List (Cell I) → Window → CopiedBytes I → CopiedBytes I
  with_base l n m base row w found = with_rest l n m base row w (with_leaves l n m base row w found)

  unfoldable pub with_base_if : LatticeOf I → IntegersOf I → Model → List (Cell I) → Window → Bool → BaseInfo → CopiedBytes I → CopiedBytes I
  with_base_if l n m row w wanted base found = cond wanted (with_base l n m base row w found) found

  abbrev pub with_base_of : LatticeOf I → IntegersOf I → Model → List (Cell I) → Bases → Window → BaseInfo → ℕ → CopiedBytes I → CopiedBytes I
  with_base_of l n m row set w base number found = with_base_if l n m row w (has_base set number) base found

  -- what the bytes of a window can hold, over the bases of a set
  abbrev pub bytes_of_source : LatticeOf I → IntegersOf I → Flow → List (Cell I) → Bases → Option Window → CopiedBytes I
  bytes_of_source l n flow row set None = no_bytes l
  bytes_of_source l n flow row set (Some w) = walk (with_base_of l n flow.model row set w) 0 flow.bases.items (no_bytes l)

  -- ---- what is written

  abbrev pub with_null : LatticeOf I → Pointers I → Bool → Pointers I
  with_null l p null = cond null ((pointer_lattice l).join p (null_pointer l)) p

  -- what a cell of a class is joined with where some of its bytes are overwritten by copied ones
  abbrev pub copied_value : LatticeOf I → IntegersOf I → Model → Class → Bool → CopiedBytes I → Value I
  copied_value l n m class signed bytes =
      cond (is_pointer class)
      (record { num = l.least; pointer = with_null l bytes.pointers bytes.numbers; indeterminate = bytes.indeterminate; labels = bytes.labels })
      (whole_range l n (kind_of m class signed) bytes.labels bytes.indeterminate)

  unfoldable pub copy_leaf : LatticeOf I → IntegersOf I → Model → CopyWrite I → Leaf → ℕ → List (Cell I) → List (Cell I)
  copy_leaf l n m write leaf position row = cond (is_overlapped m leaf write.window) (join_value l n row position (copied_value l n m leaf.class leaf.signed write.bytes)) row

  abbrev pub copy_leaf_of : LatticeOf I → IntegersOf I → Model → BaseInfo → CopyWrite I → Leaf → ℕ → List (Cell I) → List (Cell I)
  copy_leaf_of l n m base write leaf number row = copy_leaf l n m write leaf (leaf_position base number) row

  unfoldable pub copy_leaves : LatticeOf I → IntegersOf I → Model → BaseInfo → CopyWrite I → List (Cell I) → List (Cell I)
  copy_leaves l n m base write row = walk (copy_leaf_of l n m base write) 0 base.shape.cells row

  abbrev pub copy_class : LatticeOf I → IntegersOf I → Model → CopyWrite I → ℕ → Class → List (Cell I) → List (Cell I)
  copy_class l n m write position class row = join_value l n row position (copied_value l n m class true write.bytes)

  abbrev pub copy_class_of : LatticeOf I → IntegersOf I → Model → BaseInfo → CopyWrite I → Bool → ℕ → List (Cell I) → List (Cell I)
  copy_class_of l n m base write stray number row = cond (is_read_class stray number) (copy_class l n m write (class_position base number) (class_at number) row) row

  unfoldable pub copy_class_cells : LatticeOf I → IntegersOf I → Model → BaseInfo → CopyWrite I → List (Cell I) → List (Cell I)
  copy_class_cells l n m base write row = turns (copy_class_of l n m base write (has_stray base.shape.cells Char write.window)) 6 row

  abbrev pub copy_heap_part : LatticeOf I → IntegersOf I → Model → BaseInfo → CopyWrite I → List (Cell I) → List (Cell I)
  copy_heap_part l n m base write row = cond base.shape.heap (copy_class_cells l n m base write row) row

  unfoldable pub copy_base : LatticeOf I → IntegersOf I → Model → BaseInfo → CopyWrite I → List (Cell I) → List (Cell I)
  copy_base l n m base write row = forget_zeros l n base write.window (copy_heap_part l n m base write (copy_leaves l n m base write row))

  unfoldable pub copy_base_if : LatticeOf I → IntegersOf I → Model → CopyWrite I → Bool → BaseInfo → List (Cell I) → List (Cell I)
  copy_base_if l n m write wanted base row = cond wanted (copy_base l n m base write row) row

  abbrev pub copy_in : LatticeOf I → IntegersOf I → Model → CopyWrite I → BaseInfo → ℕ → List (Cell I) → List (Cell I)
  copy_in l n m write base number row = copy_base_if l n m write (has_base write.bases number) base row

  -- the bytes in each base of the set
  unfoldable pub write_copy : LatticeOf I → IntegersOf I → Flow → CopyWrite I → List (Cell I) → List (Cell I)
  write_copy l n flow write row = walk (copy_in l n flow.model write) 0 flow.bases.items row

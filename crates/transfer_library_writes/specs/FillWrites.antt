-- Setting bytes to a number, as `memset` does (7.24.6.1).
use Rattle.std.specs.Prelude.{ℕ, ◌+◌, ◌-◌, ◌==◌, nat_le, pos, int_le, ℤ, Bool, true, false, cond, ◌&&◌, Option, Some, None, is_some, List}
use Rattle.cc_base.specs.Lattices.{LatticeOf}
use Rattle.cc_base.specs.IntegerDomains.{IntegersOf}
use Rattle.cc_base.specs.NumberRanges.{Range}
use Rattle.cc_base.specs.declared.integer_operators.Tri.TheVariants.{Yes}
use Rattle.c_layout.specs.declared.data_model.Model.{Model}
use Rattle.c_layout.specs.declared.leaf_lists.Class.{Class}
use Rattle.c_layout.specs.declared.leaf_lists.Class.TheVariants.{Char}
use Rattle.c_layout.specs.declared.leaf_lists.Leaf.{Leaf}
use Rattle.c_layout.specs.declared.shapes.BaseInfo.{BaseInfo}
use Rattle.c_layout.specs.declared.shapes.ZeroPart.{ZeroPart}
use Rattle.cfg.specs.declared.programs.Flow.{Flow}
use Rattle.value_domain.specs.declared.strings.first_zeros.FirstZero.{FirstZero}
use Rattle.value_domain.specs.Strings.ZeroTables as zeros
use Rattle.value_domain.specs.declared.values.alloc_states.AllocState.{AllocState}
use Rattle.value_domain.specs.declared.values.values.Value.{Value}
use Rattle.value_domain.specs.declared.values.row_cells.Cell.{Cell}
use Rattle.value_domain.specs.Values.ValueTables.{number_value}
use Rattle.store_cells.specs.declared.access_windows.Window.{Window}
use Rattle.store_cells.specs.declared.first_zero_writes.ZeroTarget.{ZeroTarget}
use Rattle.store_cells.specs.AccessWindows.{window_is_one}
use Rattle.store_cells.specs.ByteWrites.{labelled_null, byte_written}
use Rattle.store_cells.specs.ClassNumbers.{class_at, is_pointer}
use Rattle.store_cells.specs.FirstZeroWrites.{zero_target, any_zero, offsets_of}
use Rattle.store.specs.LeafSelection.{is_overlapped, has_stray}
use Rattle.store.specs.LiveBases.{has_base, is_one_instance}
use Rattle.store_cells.specs.RowPositions.{capped, leaf_position, class_position, zero_position, state_position, state_at, zero_at, put_zero, join_value, write_value}
use Rattle.store_cells.specs.ScalarTypes.{class_bytes}
use Rattle.store_cells.specs.Walks.{walk, turns}
use Rattle.transfer_library_writes.specs.declared.fill_writes.FillWrite.{FillWrite}
use Rattle.transfer_library_writes.specs.TextWrites.{is_whole, lies_in_array, sure_zero}

-- the last byte of a leaf's one place
abbrev pub last_byte : Model → Leaf → ℕ
last_byte m leaf = capped (leaf.offset + (class_bytes m leaf.class - 1))

abbrev pub is_covered_by : Model → Leaf → Bool → Option Window → Bool
is_covered_by m leaf alone None = false
is_covered_by m leaf alone (Some sure) = alone && ((leaf.count == 1) && (nat_le sure.lo leaf.offset && nat_le (last_byte m leaf) sure.hi))

-- each byte of the leaf is surely touched: it is one place, of one instance
abbrev pub is_covered : Model → Leaf → FillWrite → Bool → Bool
is_covered m leaf write alone = is_covered_by m leaf alone write.sure

-- at least so many bytes as the size
abbrev pub holds_whole : ℤ → Range → Bool
holds_whole least None = true
holds_whole least (Some size) = int_le size.1 least

abbrev pub is_up_to_range : Window → Range → Bool
is_up_to_range local None = true
is_up_to_range local (Some p) = int_le (pos local.hi) p.0

abbrev pub is_from_start : Window → Bool
is_from_start start = (start.lo == 0) && (start.hi == 0)

module _ {I : Type 0} where
  abbrev pub zeroed : LatticeOf I → IntegersOf I → Model → Class → Bool → FillWrite → Value I
  zeroed l n m class signed write = cond write.zero (number_value l (n.one (pos 0)) write.labels) (byte_written l n m class signed write.labels)

  -- what a cell is that is surely covered
  abbrev pub covered_value : LatticeOf I → IntegersOf I → Model → Class → Bool → FillWrite → Value I
  covered_value l n m class signed write = cond (is_pointer class) (labelled_null l write.labels) (zeroed l n m class signed write)

  unfoldable pub fill_leaf : LatticeOf I → IntegersOf I → Model → Leaf → FillWrite → Bool → ℕ → List (Cell I) → List (Cell I)
  fill_leaf l n m leaf write alone position row =
      cond (is_covered m leaf write alone)
      (write_value l n row position (covered_value l n m leaf.class leaf.signed write) true)
      (write_value l n row position (byte_written l n m leaf.class leaf.signed write.labels) false)

  unfoldable pub fill_leaf_of : LatticeOf I → IntegersOf I → Model → BaseInfo → FillWrite → Bool → Leaf → ℕ → List (Cell I) → List (Cell I)
  fill_leaf_of l n m base write alone leaf number row = cond (is_overlapped m leaf write.window) (fill_leaf l n m leaf write alone (leaf_position base number) row) row

  unfoldable pub fill_leaves : LatticeOf I → IntegersOf I → Model → BaseInfo → FillWrite → Bool → List (Cell I) → List (Cell I)
  fill_leaves l n m base write alone row = walk (fill_leaf_of l n m base write alone) 0 base.shape.cells row

  -- a whole instance of this state is set to 0
  abbrev pub clears_state : IntegersOf I → AllocState I → FillWrite → Bool
  clears_state n state write = (write.zero && is_from_start write.start) && holds_whole write.least (n.bounds state.size)

  unfoldable pub clears_instance : LatticeOf I → IntegersOf I → BaseInfo → List (Cell I) → FillWrite → Bool
  clears_instance l n base row write = clears_state n (state_at l n row (state_position base)) write

  -- what a class cell is joined with
  abbrev pub class_value : LatticeOf I → IntegersOf I → Model → Class → FillWrite → Bool → Value I
  class_value l n m class write cleared = cond cleared (covered_value l n m class true write) (byte_written l n m class true write.labels)

  abbrev pub fill_stray : LatticeOf I → IntegersOf I → Model → BaseInfo → FillWrite → Bool → List (Cell I) → List (Cell I)
  fill_stray l n m base write cleared row = cond (has_stray base.shape.cells Char write.window) (join_value l n row (class_position base 0) (class_value l n m Char write cleared)) row

  abbrev pub fill_class : LatticeOf I → IntegersOf I → Model → BaseInfo → FillWrite → Bool → ℕ → List (Cell I) → List (Cell I)
  fill_class l n m base write cleared number row = join_value l n row (class_position base (number + 1)) (class_value l n m (class_at (number + 1)) write cleared)

  abbrev pub fill_classes : LatticeOf I → IntegersOf I → Model → BaseInfo → FillWrite → Bool → List (Cell I) → List (Cell I)
  fill_classes l n m base write cleared row = turns (fill_class l n m base write cleared) 5 (fill_stray l n m base write cleared row)

  unfoldable pub fill_class_cells : LatticeOf I → IntegersOf I → Model → BaseInfo → FillWrite → List (Cell I) → List (Cell I)
  fill_class_cells l n m base write row = fill_classes l n m base write (clears_instance l n base row write) row

  -- no offset of the write is behind the first zero
  abbrev pub is_up_to : IntegersOf I → FirstZero I → Window → Bool
  is_up_to n old local = is_up_to_range local (n.bounds old.at)

  abbrev pub zero_inside : LatticeOf I → IntegersOf I → FirstZero I → Window → FillWrite → Bool → FirstZero I
  zero_inside l n old local write alone =
      cond (write.zero && (int_le (pos 1) write.least && (window_is_one local && is_up_to n old local)))
      (sure_zero l alone old (zeros.put_at l n old (offsets_of l n local) Yes)) (any_zero l n)

  abbrev pub zero_met_at : LatticeOf I → IntegersOf I → FirstZero I → FillWrite → Bool → Bool → Option ZeroTarget → FirstZero I
  zero_met_at l n old write alone inside None = any_zero l n
  zero_met_at l n old write alone inside (Some start) = cond (lies_in_array write.one_byte inside start) (zero_inside l n old start.local write (alone && start.whole)) (any_zero l n)

  -- the first zero of an array that the write meets: known where zeros are written from one offset on
  -- that is not behind it, and the old one too where the write may begin elsewhere
  abbrev pub zero_met : LatticeOf I → IntegersOf I → ZeroPart → FirstZero I → FillWrite → Bool → FirstZero I
  zero_met l n part old write alone = zero_met_at l n old write alone (is_whole (zero_target part write.window)) (zero_target part write.start)

  abbrev pub fill_zero_at : LatticeOf I → IntegersOf I → FillWrite → Bool → ZeroPart → ℕ → List (Cell I) → List (Cell I)
  fill_zero_at l n write alone part position row = put_zero row position (zero_met l n part (zero_at l n row position) write alone)

  unfoldable pub fill_zero : LatticeOf I → IntegersOf I → BaseInfo → FillWrite → Bool → ZeroPart → ℕ → List (Cell I) → List (Cell I)
  fill_zero l n base write alone part number row = cond (is_some (zero_target part write.window)) (fill_zero_at l n write alone part (zero_position base number) row) row

  unfoldable pub fill_zeros : LatticeOf I → IntegersOf I → BaseInfo → FillWrite → Bool → List (Cell I) → List (Cell I)
  fill_zeros l n base write alone row = walk (fill_zero l n base write alone) 0 base.shape.zeros row

  abbrev pub fill_heap_part : LatticeOf I → IntegersOf I → Model → BaseInfo → FillWrite → List (Cell I) → List (Cell I)
  fill_heap_part l n m base write row = cond base.shape.heap (fill_class_cells l n m base write row) row

  unfoldable pub fill_base : LatticeOf I → IntegersOf I → Model → BaseInfo → FillWrite → Bool → List (Cell I) → List (Cell I)
  fill_base l n m base write alone row = fill_zeros l n base write alone (fill_heap_part l n m base write (fill_leaves l n m base write alone row))

  unfoldable pub fill_base_if : LatticeOf I → IntegersOf I → Model → FillWrite → Bool → Bool → BaseInfo → List (Cell I) → List (Cell I)
  fill_base_if l n m write alone wanted base row = cond wanted (fill_base l n m base write alone row) row

  abbrev pub fill_in : LatticeOf I → IntegersOf I → Model → FillWrite → Bool → BaseInfo → ℕ → List (Cell I) → List (Cell I)
  fill_in l n m write alone base number row = fill_base_if l n m write alone (has_base write.bases number) base row

  -- the bytes in each base of the set
  unfoldable pub write_fill : LatticeOf I → IntegersOf I → Flow → FillWrite → List (Cell I) → List (Cell I)
  write_fill l n flow write row = walk (fill_in l n flow.model write (is_one_instance flow.bases.items write.bases)) 0 flow.bases.items row

-- Steps that read or write memory: the row after each, None where no run goes on.
use Rattle.std.specs.Prelude.{ℕ, min, Bool, true, false, cond, ◌&&◌, Option, Some, None, List, slice_get}
use Rattle.cc_base.specs.Lattices.{LatticeOf}
use Rattle.cc_base.specs.IntegerDomains.{IntegersOf}
use Rattle.c_layout.specs.StructViews.{structs_view}
use Rattle.c_layout.specs.declared.struct_table.StructType.{StructType}
use Rattle.c_layout.specs.declared.leaf_lists.Class.{Class}
use Rattle.cfg.specs.declared.programs.Flow.{Flow}
use Rattle.cfg.specs.declared.machine_instructions.Scalar.{Scalar}
use Rattle.cfg.specs.declared.machine_instructions.Scalar.TheVariants as scalar
use Rattle.pointer_domain.specs.declared.pointer_sets.Pointers.{Pointers}
use Rattle.pointer_domain.specs.BaseSets.{bases_empty}
use Rattle.pointer_domain.specs.PointerTables.{longest}
use Rattle.value_domain.specs.declared.values.values.Value.{Value}
use Rattle.value_domain.specs.declared.values.row_cells.Cell.{Cell}
use Rattle.value_domain.specs.Values.ValueTables.{number_value, pointer_value}
use Rattle.store_cells.specs.ScalarTypes.{class_bytes}
use Rattle.store_cells.specs.ClassNumbers.{is_pointer}
use Rattle.store.specs.LiveBases.{any_freed}
use Rattle.store.specs.Loads.{load}
use Rattle.store.specs.Stores.{store}
use Rattle.store_structs.specs.StructCopies.{copy_struct}
use Rattle.transfer_checks.specs.declared.touches.Touched.{Touched}
use Rattle.transfer_checks.specs.declared.violation_sets.Violations.{Violations}
use Rattle.transfer_checks.specs.ViolationSets.{no_violations, violations_union}
use Rattle.transfer_checks.specs.Touches.{touch}
use Rattle.transfer_checks.specs.Temporaries.{temp_value, put_temp}
use Rattle.transfer_instructions.specs.Values.Scalars.{class_of, minds_blank}
use Rattle.transfer_instructions.specs.Values.ResultTemps.{put_number, put_pointer}

-- a struct's size, as far as an object can be long
abbrev pub size_of_struct : Option StructType → ℕ
size_of_struct None = 0
size_of_struct (Some s) = min s.size longest

abbrev pub struct_size : Flow → ℕ → ℕ
struct_size flow index = size_of_struct (slice_get flow.structs.items.items index)

module _ {I : Type 0} where
  abbrev pub touch_scalar : LatticeOf I → IntegersOf I → Flow → List (Cell I) → ℕ → Scalar → Bool → Touched I
  touch_scalar l n flow row pointer kind write = touch l n flow.bases.items row (temp_value l n flow row pointer).pointer 0 (class_bytes flow.model (class_of kind).0) write

  -- ---- loads

  abbrev pub loaded : LatticeOf I → IntegersOf I → Flow → List (Cell I) → Pointers I → Scalar → Option (Value I)
  loaded l n flow row rest kind = load l n flow.model flow.bases.items row rest (class_of kind).0 (class_of kind).1

  -- a byte is indeterminate, and may not be
  abbrev pub is_blank : Class → Bool → Value I → Bool
  is_blank class signed v = v.indeterminate && minds_blank class signed

  -- a pointer into an instance that may be freed
  abbrev pub is_freed : LatticeOf I → IntegersOf I → Flow → List (Cell I) → Class → Value I → Bool
  is_freed l n flow row class v = is_pointer class && any_freed l n flow.bases.items row v.pointer.bases

  -- an indeterminate byte, or a pointer into an instance that may be freed
  abbrev pub blank_or_freed : LatticeOf I → IntegersOf I → Flow → List (Cell I) → Class → Bool → Value I → Violations
  blank_or_freed l n flow row class signed v = record no_violations {
    uninitref = is_blank class signed v;
    accfree = is_freed l n flow row class v;
  }

  abbrev pub read_violations : LatticeOf I → IntegersOf I → Flow → List (Cell I) → Scalar → Option (Value I) → Violations
  read_violations l n flow row kind None = no_violations
  read_violations l n flow row kind (Some v) = blank_or_freed l n flow row (class_of kind).0 (class_of kind).1 v

  abbrev pub load_touched : LatticeOf I → IntegersOf I → Flow → List (Cell I) → Scalar → Touched I → Violations
  load_touched l n flow row kind touched = violations_union touched.violations (read_violations l n flow row kind (loaded l n flow row touched.rest kind))

  abbrev pub load_violations : LatticeOf I → IntegersOf I → Flow → List (Cell I) → ℕ → Scalar → Violations
  load_violations l n flow row pointer kind = load_touched l n flow row kind (touch_scalar l n flow row pointer kind false)

  -- what was read is determinate
  unfoldable pub put_read : LatticeOf I → IntegersOf I → Flow → List (Cell I) → ℕ → Scalar → Value I → Option (List (Cell I))
  put_read l n flow row to scalar.Pointer v = put_pointer l flow row to v.pointer
  put_read l n flow row to (scalar.Int kind) v = put_number n flow row to (number_value l v.num v.labels)

  abbrev pub put_loaded : LatticeOf I → IntegersOf I → Flow → List (Cell I) → ℕ → Scalar → Option (Value I) → Option (List (Cell I))
  put_loaded l n flow row to kind None = None
  put_loaded l n flow row to kind (Some v) = put_read l n flow row to kind v

  unfoldable pub load_step : LatticeOf I → IntegersOf I → Flow → List (Cell I) → ℕ → ℕ → Scalar → Option (List (Cell I))
  load_step l n flow row to pointer kind = put_loaded l n flow row to kind (loaded l n flow row (touch_scalar l n flow row pointer kind false).rest kind)

  -- ---- stores

  -- a temporary takes the value of another one
  unfoldable pub move_temp : LatticeOf I → IntegersOf I → Flow → Option (ℕ × ℕ) → List (Cell I) → List (Cell I)
  move_temp l n flow None row = row
  move_temp l n flow (Some p) row = put_temp flow row p.0 (temp_value l n flow row p.1)

  abbrev pub moved_behind : LatticeOf I → IntegersOf I → Flow → Option (ℕ × ℕ) → Option (List (Cell I)) → Option (List (Cell I))
  moved_behind l n flow kept None = None
  moved_behind l n flow kept (Some row) = Some (move_temp l n flow kept row)

  abbrev pub store_violations : LatticeOf I → IntegersOf I → Flow → List (Cell I) → ℕ → Scalar → Violations
  store_violations l n flow row pointer kind = (touch_scalar l n flow row pointer kind true).violations

  unfoldable pub store_to : LatticeOf I → IntegersOf I → Flow → Pointers I → Scalar → Value I → List (Cell I) → Option (List (Cell I))
  store_to l n flow rest kind v row = store l n flow.model flow.bases.items rest (class_of kind).0 (class_of kind).1 v row

  unfoldable pub store_step : LatticeOf I → IntegersOf I → Flow → List (Cell I) → ℕ → ℕ → Scalar → Option (ℕ × ℕ) → Option (List (Cell I))
  store_step l n flow row pointer value kind kept =
      moved_behind l n flow kept (store_to l n flow (touch_scalar l n flow row pointer kind true).rest kind (temp_value l n flow row value) row)

  -- ---- copies of structs

  abbrev pub touch_struct : LatticeOf I → IntegersOf I → Flow → List (Cell I) → ℕ → ℕ → Bool → Touched I
  touch_struct l n flow row pointer index write = touch l n flow.bases.items row (temp_value l n flow row pointer).pointer 0 (struct_size flow index) write

  -- the target is touched where the source goes on
  abbrev pub both_touched : Touched I → Touched I → Violations
  both_touched source target = cond (bases_empty source.rest.bases) source.violations (violations_union source.violations target.violations)

  abbrev pub copy_violations : LatticeOf I → IntegersOf I → Flow → List (Cell I) → ℕ → ℕ → ℕ → Violations
  copy_violations l n flow row to from index = both_touched (touch_struct l n flow row from index false) (touch_struct l n flow row to index true)

  unfoldable pub copy_touched : LatticeOf I → IntegersOf I → Flow → ℕ → Pointers I → Pointers I → List (Cell I) → Option (List (Cell I))
  copy_touched l n flow index target source row = copy_struct l n flow.model flow.bases.items (structs_view flow.structs) index target source row

  -- the temporary of the target keeps it as far as it goes on
  abbrev pub kept_target : LatticeOf I → Flow → ℕ → Pointers I → Option (List (Cell I)) → Option (List (Cell I))
  kept_target l flow to target None = None
  kept_target l flow to target (Some row) = Some (put_temp flow row to (pointer_value l target))

  unfoldable pub copy_between : LatticeOf I → IntegersOf I → Flow → List (Cell I) → ℕ → ℕ → Pointers I → Pointers I → Option (List (Cell I))
  copy_between l n flow row to index target source = kept_target l flow to target (copy_touched l n flow index target source row)

  unfoldable pub copy_step : LatticeOf I → IntegersOf I → Flow → List (Cell I) → ℕ → ℕ → ℕ → Option (List (Cell I))
  copy_step l n flow row to from index = copy_between l n flow row to index (touch_struct l n flow row to index true).rest (touch_struct l n flow row from index false).rest

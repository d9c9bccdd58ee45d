-- Instructions leave rows from a floor on.
use Rattle.std.specs.Prelude.{◌≡◌, ℕ, ◌-◌, ◌^◌, ◌||◌, ℤ, pos, negsuc, ◌≤ℤ◌, int_le, Bool, true, false, cond, Option, Some, None, is_none, List, slice_get, refl}
use Rattle.std.proofs.Common.{arith}
use Rattle.std.proofs.lemmas.Int.{ints}
use Rattle.std.proofs.lemmas.Bool.{and_parts}
use Rattle.cc_base.specs.Lattices.{LatticeOf}
use Rattle.cc_base.specs.NumberRanges.{range_met, range_over, range_difference}
use Rattle.cc_base.specs.IntegerTypes.{is_size, least_of, greatest_of}
use Rattle.cc_base.specs.IntegerDomains.{IntegersOf}
use Rattle.cc_base.specs.declared.integer_operators.Tri.{Tri}
use Rattle.cc_base.specs.declared.integer_operators.Tri.TheVariants.{No, Yes, Both, Never}
use Rattle.c_layout.specs.declared.leaf_lists.Class.TheVariants as class
use Rattle.c_layout.specs.declared.shapes.BaseInfo.{BaseInfo}
use Rattle.cfg.specs.declared.programs.Flow.{Flow}
use Rattle.cfg.specs.declared.machine_instructions.Scalar.{Scalar}
use Rattle.cfg.specs.declared.machine_instructions.Scalar.TheVariants as scalar
use Rattle.cfg.specs.declared.machine_instructions.Operation.{Operation}
use Rattle.cfg.specs.declared.machine_instructions.Operation.TheVariants as op
use Rattle.cfg.specs.WellFormed.{names_of, is_number, has_temp, fits_operation}
use Rattle.pointer_domain.specs.declared.pointer_sets.Pointers.{Pointers}
use Rattle.pointer_domain.specs.PointerTables.{is_any, offsets, pointers_difference}
use Rattle.value_domain.specs.declared.values.values.Value as values
use Rattle.value_domain.specs.declared.values.row_cells.Cell.{Cell}
use Rattle.value_domain.specs.declared.values.row_cells.Cell.TheVariants.{Value}
use Rattle.value_domain.specs.Values.ValueTables.{number_value, pointer_value, truth_value}
use Rattle.store_cells.specs.ByteWrites.{null_pointer}
use Rattle.store_cells.specs.ScalarTypes.{kind_of}
use Rattle.transfer_checks.specs.Temporaries.{temp_position, temp_value, amount_value, put_temp}
use Rattle.transfer_system.specs.ResultTemps.{put_number, put_truth, put_pointer}
use Rattle.transfer_system.specs.Scalars.{class_of}
use Rattle.transfer_system.specs.IntegerSteps.{constant_step, binary_step, unary_step, compare_step, not_step, put_converted, convert_value, convert_step}
use Rattle.transfer_system.specs.PointerSteps.{is_short, address_of, address_in, address_step, touch_part, narrow_touched, narrow_step, signed_amount, put_moved, shift_by, shift_step, difference_of, difference_step, relation_step}
use Rattle.transfer_system.specs.MemorySteps.{struct_size, touch_scalar, put_read, put_loaded, load_step, move_temp, moved_behind, store_to, store_step, touch_struct, copy_touched, kept_target, copy_between, copy_step}
use Rattle.transfer_system.specs.CallSteps.{call_of, line_call, call_step, line_goes_on, write_line}
use Rattle.transfer_system.specs.Steps.{operate}
use Rattle.row_bounds.specs.Stores.Floors.{least_number, IsPointerFrom, IsValueFrom, IsReadFrom, AreFrom, IsLeftFrom, KeepsFrom, LeavesFrom}
use Rattle.row_bounds.proofs.stores.Ranges.{FloorLaws, type_least, met_from, least_from, between_from, range_from, arith_from, unary_from, convert_from, low_from}
use Rattle.row_bounds.proofs.stores.Values.{class_size, no_pointer_from, number_from, pointer_from, at_from, zero_from}
use Rattle.row_bounds.proofs.stores.Rows.{set_from, left_if, left_unless}
use Rattle.row_bounds.proofs.stores.Stores.{store_keeps}
use Rattle.row_bounds.proofs.stores.Loads.{load_from}
use Rattle.row_bounds.proofs.stores.Objects.{forget_keeps, clear_keeps, leave_keeps, spell_keeps}
use Rattle.row_bounds.proofs.stores.StructCopies.{struct_keeps}
use Rattle.row_bounds.proofs.steps.Pointers.{count_from, count_floor, shifted_from, narrowed_from, touch_from}
use Rattle.row_bounds.proofs.steps.Plans.{apply_keeps, plan_from, fgets_plan}

-- numbers of a program are at least the least number of any type
pub number_low : (z : ℤ) → is_number z ≡ true → least_number ≤ℤ z
number_low z h = le_true least_number z (and_parts (int_le (negsuc (2 ^ 63 - 1)) z) (int_le z (pos (2 ^ 64 - 1))) h).0
  where
    le_true : (a c : ℤ) → int_le a c ≡ true → a ≤ℤ c
    le_true a c h = grind (arith, ints)

module _ {I : Type 0} {l : LatticeOf I} {n : IntegersOf I} {stands : I → ℤ → Type 0} {floor : ℤ} (k : FloorLaws l n stands floor) (flow : Flow) where
  -- ---- results

  pub temp_from : (row : List (Cell I)) → AreFrom n floor row → (temp : ℕ) → IsValueFrom n floor (temp_value l n flow row temp)
  temp_from row j temp = at_from k row (temp_position flow temp) j

  pub put_keeps : (to : ℕ) (v : values.Value I) → IsValueFrom n floor v → KeepsFrom n floor (λ row. put_temp flow row to v)
  put_keeps to v h row j = set_from n floor row (temp_position flow to) (Value v) h j

  number_put : (row : List (Cell I)) → AreFrom n floor row → (to : ℕ) (v : values.Value I) → IsValueFrom n floor v → IsLeftFrom n floor (put_number n flow row to v)
  unfolding put_number
  number_put row j to v h = left_unless n floor (is_none (n.bounds v.num)) (Some (put_temp flow row to v)) (put_keeps to v h row j)

  truth_from : (t : Tri) → IsValueFrom n floor (truth_value l n t)
  truth_from Yes = number_from k (n.one (pos 1)) (low_from k (pos 1) (omega (arith, ints)))
  truth_from No = number_from k (n.one (pos 0)) (zero_from k)
  truth_from Both = number_from k (n.between (pos 0) (pos 1)) (let v = k.low in between_from k floor (pos 0) (pos 1) (omega (arith, ints)))
  truth_from Never = number_from k l.least (least_from k floor)

  truth_put : (row : List (Cell I)) → AreFrom n floor row → (to : ℕ) (t : Tri) → IsLeftFrom n floor (put_truth l n flow row to t)
  unfolding put_truth
  truth_put row j to Yes = put_keeps to (truth_value l n Yes) (truth_from Yes) row j
  truth_put row j to No = put_keeps to (truth_value l n No) (truth_from No) row j
  truth_put row j to Both = put_keeps to (truth_value l n Both) (truth_from Both) row j
  truth_put row j to Never = tt

  pointer_put : (row : List (Cell I)) → AreFrom n floor row → (to : ℕ) (p : Pointers I) → IsPointerFrom n floor p → IsLeftFrom n floor (put_pointer l flow row to p)
  unfolding put_pointer
  pointer_put row j to p h = left_if n floor (is_any p || p.ended) (Some (put_temp flow row to (pointer_value l p))) (put_keeps to (pointer_value l p) (pointer_from k p h) row j)

  sized_put : (row : List (Cell I)) → AreFrom n floor row → (to : ℕ) (bytes : ℕ) (v : values.Value I) → (is_size bytes ≡ true → IsValueFrom n floor v) → IsLeftFrom n floor (cond (is_size bytes) (put_number n flow row to v) None)
  sized_put row j to bytes v h = by_size (is_size bytes) refl
    where
      by_size : (t : Bool) → is_size bytes ≡ t → IsLeftFrom n floor (cond t (put_number n flow row to v) None)
      by_size true s = number_put row j to v (h s)
      by_size false s = tt

  converted_put : (row : List (Cell I)) → AreFrom n floor row → (to : ℕ) (v : values.Value I) → IsValueFrom n floor v → (from kind : Scalar) → IsLeftFrom n floor (convert_value l n flow row to v from kind)
  unfolding convert_value put_converted
  converted_put row j to v h from (scalar.Int kind) = sized_put row j to kind.bytes _ (λ s. number_from k (n.convert v.num kind) (convert_from k v.num kind s))
  converted_put row j to v h (scalar.Int kind) scalar.Pointer = pointer_put row j to (null_pointer l) (no_pointer_from k)
  converted_put row j to v h scalar.Pointer scalar.Pointer = pointer_put row j to v.pointer h.1

  address_put : (row : List (Cell I)) → AreFrom n floor row → (to base offset : ℕ) (found : Option BaseInfo) → IsLeftFrom n floor (address_in l n flow row to base offset found)
  address_put row j to base offset None = tt
  address_put row j to base offset (Some info) = pointer_put row j to (address_of n base offset info.size) (count_from k 0, count_floor k offset, count_from k info.size)

  loaded_put : (row : List (Cell I)) → AreFrom n floor row → (to : ℕ) (kind : Scalar) (found : Option (values.Value I)) → IsReadFrom n floor found → IsLeftFrom n floor (put_loaded l n flow row to kind found)
  unfolding put_read
  loaded_put row j to kind None h = tt
  loaded_put row j to scalar.Pointer (Some v) h = pointer_put row j to v.pointer h.1
  loaded_put row j to (scalar.Int kind) (Some v) h = number_put row j to (number_value l v.num v.labels) (number_from k v.num h.0)

  moved_put : (kept : Option (ℕ × ℕ)) → KeepsFrom n floor (move_temp l n flow kept)
  unfolding move_temp
  moved_put None row j = j
  moved_put (Some p) row j = put_keeps p.0 (temp_value l n flow row p.1) (temp_from row j p.1) row j

  behind_from : (kept : Option (ℕ × ℕ)) (x : Option (List (Cell I))) → IsLeftFrom n floor x → IsLeftFrom n floor (moved_behind l n flow kept x)
  behind_from kept None h = tt
  behind_from kept (Some row) h = moved_put kept row h

  target_from : (to : ℕ) (p : Pointers I) → IsPointerFrom n floor p → (x : Option (List (Cell I))) → IsLeftFrom n floor x → IsLeftFrom n floor (kept_target l flow to p x)
  target_from to p h None j = tt
  target_from to p h (Some row) j = put_keeps to (pointer_value l p) (pointer_from k p h) row j

  -- ---- steps

  difference_from : (p q : Pointers I) (size : ℕ) → IsValueFrom n floor (difference_of l n flow p q size)
  difference_from p q size =
      let kind = kind_of flow.model class.Pointer true in
      let low = type_least kind (class_size flow.model class.Pointer) in
      let v = k.low in
      let r = range_over (range_difference (offsets n p) (offsets n q)) size in
      number_from k (pointers_difference l n p q size kind) (range_from k floor (range_met r (least_of kind) (greatest_of kind)) (met_from floor r (least_of kind) (greatest_of kind) (omega (arith, ints))))

  pub line_keeps : (to : Option ℕ) (line count stream : ℕ) → LeavesFrom n floor (λ row. write_line l n flow row to line count stream)
  unfolding write_line
  line_keeps to line count stream row j = apply_keeps k flow to None _ (fgets_plan k (line_call flow line count stream) row j) row j

  pub operate_keeps : (p : Operation) → fits_operation (names_of flow) p ≡ true → LeavesFrom n floor (λ row. operate l n flow row p)
  unfolding operate constant_step binary_step unary_step compare_step not_step convert_step address_step narrow_step narrow_touched shift_step shift_by put_moved difference_step relation_step load_step store_step store_to copy_step copy_between copy_touched call_step
  operate_keeps (op.Constant to number kind) u row j = number_put row j to _ (number_from k (n.one number) (low_from k number (number_low number (and_parts (is_number number) _ (and_parts (has_temp (names_of flow) to) _ u).1).0)))
  operate_keeps (op.Binary to q left right kind) u row j = sized_put row j to kind.bytes _ (λ s. number_from k (n.arith q (temp_value l n flow row left).num (amount_value l n flow row right).num kind) (arith_from k q (temp_value l n flow row left).num (amount_value l n flow row right).num kind s))
  operate_keeps (op.Unary to q operand kind) u row j = sized_put row j to kind.bytes _ (λ s. number_from k (n.unary q (temp_value l n flow row operand).num kind) (unary_from k q (temp_value l n flow row operand).num kind s))
  operate_keeps (op.Compare to rel left right) u row j = truth_put row j to _
  operate_keeps (op.Not to operand kind) u row j = truth_put row j to _
  operate_keeps (op.Convert to operand from kind) u row j = converted_put row j to (temp_value l n flow row operand) (temp_from row j operand) from kind
  operate_keeps (op.Address to base offset) u row j = address_put row j to base offset (slice_get flow.bases.items base)
  operate_keeps (op.Narrow to pointer offset size) u row j = left_if n floor (is_short offset) _ (left_if n floor (is_short size) _ (pointer_put row j to _ (narrowed_from k (touch_part l n flow row pointer offset size).rest offset size)))
  operate_keeps (op.Shift to pointer amount scale backwards) u row j =
      left_if n floor (is_short scale) _ (left_unless n floor _ _ (pointer_put row j to _ (shifted_from k (temp_value l n flow row pointer).pointer (signed_amount l n (amount_value l n flow row amount).num backwards) scale (temp_from row j pointer).1)))
  operate_keeps (op.Difference to left right size) u row j = left_if n floor _ _ (number_put row j to _ (difference_from (temp_value l n flow row left).pointer (temp_value l n flow row right).pointer size))
  operate_keeps (op.ComparePointers to rel left right) u row j = truth_put row j to _
  operate_keeps (op.Load to pointer kind) u row j = loaded_put row j to kind _ (load_from k flow.model row j flow.bases.items (touch_scalar l n flow row pointer kind false).rest (class_of kind).0 (class_of kind).1)
  operate_keeps (op.Store pointer value kind kept) u row j =
      behind_from kept _ (store_keeps k flow.model flow.bases.items (touch_scalar l n flow row pointer kind true).rest (class_of kind).0 (class_of kind).1 (temp_value l n flow row value) (temp_from row j value) row j)
  operate_keeps (op.Copy to from index) u row j =
      target_from to (touch_struct l n flow row to index true).rest (touch_from k flow.bases.items row (temp_value l n flow row to).pointer 0 (struct_size flow index) true (temp_from row j to).1) _
      (struct_keeps k flow.model flow.bases.items _ index (touch_struct l n flow row to index true).rest (touch_struct l n flow row from index false).rest row j)
  operate_keeps (op.Library to function arguments newest wanted) u row j = apply_keeps k flow to newest _ (plan_from k (call_of flow arguments.items wanted) row j function) row j
  operate_keeps (op.ReadLine to line count stream) u row j = left_if n floor (line_goes_on l n flow row line count stream) (Some row) j
  operate_keeps (op.Enter base) u row j = forget_keeps k flow.bases.items base row j
  operate_keeps (op.Leave base) u row j = leave_keeps k flow.bases.items base row j
  operate_keeps (op.Forget base) u row j = forget_keeps k flow.bases.items base row j
  operate_keeps (op.Clear base) u row j = clear_keeps k flow.bases.items base row j
  operate_keeps (op.Spell base offset room text) u row j = spell_keeps k flow.bases.items base offset room text row j
  operate_keeps op.Jump u row j = j
  operate_keeps (op.Branch temp kind) u row j = j
  operate_keeps (op.Switch temp kind) u row j = j
  operate_keeps op.Stop u row j = tt

-- The steps and edges of a program leave something in each cell.
use Rattle.std.specs.Prelude.{◌≡◌, ℕ, suc, ℤ, Bool, true, false, cond, ◌&&◌, ◌||◌, Option, Some, None, is_none, is_some, List, [], ◌∷◌, slice_get, refl}
use Rattle.cc_base.specs.Lattices.{LatticeOf}
use Rattle.cc_base.specs.IntegerDomains.{IntegersOf}
use Rattle.cc_base.specs.IntegerTypes.{is_size}
use Rattle.cc_base.specs.declared.int_types.IntType.{IntType}
use Rattle.cc_base.specs.declared.integer_operators.Rel.{Rel}
use Rattle.cc_base.specs.declared.integer_operators.Tri.{Tri}
use Rattle.cc_base.specs.declared.integer_operators.Tri.TheVariants.{Yes, No, Both, Never}
use Rattle.c_layout.specs.declared.shapes.BaseInfo.{BaseInfo}
use Rattle.cfg.specs.declared.programs.Flow.{Flow}
use Rattle.cfg.specs.declared.basic_blocks.BasicBlock.{BasicBlock}
use Rattle.pointer_domain.specs.declared.base_sets.Bases.{Bases}
use Rattle.cfg.specs.declared.flow_edges.Edge.{Edge}
use Rattle.cfg.specs.declared.flow_edges.EdgeKind.{EdgeKind}
use Rattle.cfg.specs.declared.flow_edges.EdgeKind.TheVariants as kind
use Rattle.cfg.specs.declared.flow_edges.Side.{Side}
use Rattle.cfg.specs.declared.flow_edges.Side.TheVariants.{Object, Number, Null}
use Rattle.cfg.specs.declared.flow_edges.Test.{Test}
use Rattle.cfg.specs.declared.machine_instructions.Instruction.{Instruction}
use Rattle.cfg.specs.declared.machine_instructions.Operation.{Operation}
use Rattle.cfg.specs.declared.machine_instructions.Operation.TheVariants as op
use Rattle.cfg.specs.declared.machine_instructions.Scalar.{Scalar}
use Rattle.cfg.specs.declared.machine_instructions.Scalar.TheVariants as scalar
use Rattle.pointer_domain.specs.declared.pointer_sets.Pointers.{Pointers}
use Rattle.pointer_domain.specs.PointerTables.{is_any}
use Rattle.value_domain.specs.declared.values.values.Value as values
use Rattle.value_domain.specs.declared.values.row_cells.Cell.{Cell}
use Rattle.value_domain.specs.declared.values.row_cells.Cell.TheVariants.{Value}
use Rattle.value_domain.specs.Values.ValueTables.{number_value, pointer_value, truth_value}
use Rattle.store_cells.specs.RowPositions.{value_at, put_value}
use Rattle.transfer_checks.specs.Temporaries.{temp_position, put_temp}
use Rattle.transfer_system.specs.ResultTemps.{put_number, put_truth, put_pointer}
use Rattle.transfer_system.specs.Scalars.{class_of}
use Rattle.transfer_system.specs.IntegerSteps.{constant_step, binary_step, unary_step, compare_step, not_step, put_converted, convert_value, convert_step}
use Rattle.transfer_system.specs.PointerSteps.{is_short, address_in, address_step, narrow_touched, narrow_step, put_moved, shift_by, shift_step, difference_step, relation_step}
use Rattle.transfer_system.specs.MemorySteps.{put_read, put_loaded, load_step, move_temp, moved_behind, store_to, store_step, kept_target, copy_between, copy_step}
use Rattle.transfer_system.specs.CallSteps.{line_goes_on}
use Rattle.transfer_system.specs.Steps.{operate}
use Rattle.transfer_system.specs.Refinements.{object_position, mirrored, is_same_object, side_value, refined, met, has_number, labelled_number, with_number, named_by, put_at, put_side, refine_one, refine_two, refine_sides, refine_values, refine_integers, refine_pointer_at, refine_pointer, refine_named, refine_in, refine, put_case, refine_value, refine_case_at, refine_case}
use Rattle.transfer_system.specs.Edges.{deciding_temp, switched, is_other_than, line_call, put_kept, refine_if, kept_behind, behind_test, branch_edge, put_null, refine_named_case, refine_object, case_edge, no_line_edge, line_edge, follow, follow_if, edge}
use Rattle.transfer_system.specs.System.BlockPasses.{rows_behind, block_end, instructions_in, instructions_of}
use Rattle.transfer_monotone.specs.Edges.FilledRows.{AreFilled, IsLeftFilled, Fills, LeavesFilled}
use Rattle.transfer_monotone.specs.Edges.ProgramLaws.{IsRising, IsRisingEdge, AreRising}
use Rattle.transfer_monotone.proofs.edges.FilledSteps.{fill_set, store_fills, forget_fills, clear_fills, leave_fills, spell_fills}

module _ {I : Type 0} where
  left_if : (c : Bool) (x : Option (List (Cell I))) → IsLeftFilled x → IsLeftFilled (cond c x None)
  left_if true x h = h
  left_if false x h = tt

  left_unless : (c : Bool) (x : Option (List (Cell I))) → IsLeftFilled x → IsLeftFilled (cond c None x)
  left_unless true x h = tt
  left_unless false x h = h

  left_either : (c : Bool) (x y : Option (List (Cell I))) → IsLeftFilled x → IsLeftFilled y → IsLeftFilled (cond c x y)
  left_either true x y h k = h
  left_either false x y h k = k

module _ {I : Type 0} (l : LatticeOf I) (n : IntegersOf I) (all : Bases) (flow : Flow) where
  -- ---- results

  temp_fills : (row : List (Cell I)) → AreFilled row → (to : ℕ) (v : values.Value I) → AreFilled (put_temp flow row to v)
  temp_fills row h to v = fill_set row (temp_position flow to) (Value v) tt h

  number_fills : (row : List (Cell I)) → AreFilled row → (to : ℕ) (v : values.Value I) → IsLeftFilled (put_number n flow row to v)
  unfolding put_number
  number_fills row h to v = left_unless (is_none (n.bounds v.num)) (Some (put_temp flow row to v)) (temp_fills row h to v)

  truth_fills : (row : List (Cell I)) → AreFilled row → (to : ℕ) (t : Tri) → IsLeftFilled (put_truth l n flow row to t)
  unfolding put_truth
  truth_fills row h to Yes = temp_fills row h to (truth_value l n Yes)
  truth_fills row h to No = temp_fills row h to (truth_value l n No)
  truth_fills row h to Both = temp_fills row h to (truth_value l n Both)
  truth_fills row h to Never = tt

  pointer_fills : (row : List (Cell I)) → AreFilled row → (to : ℕ) (p : Pointers I) → IsLeftFilled (put_pointer l flow row to p)
  unfolding put_pointer
  pointer_fills row h to p = left_if (is_any p || p.ended) (Some (put_temp flow row to (pointer_value l p))) (temp_fills row h to (pointer_value l p))

  converted_fills : (row : List (Cell I)) → AreFilled row → (to : ℕ) (v : values.Value I) (from kind : Scalar) → IsLeftFilled (convert_value l n flow row to v from kind)
  unfolding convert_value put_converted
  converted_fills row h to v from (scalar.Int kind) = left_if (is_size kind.bytes) _ (number_fills row h to _)
  converted_fills row h to v from scalar.Pointer = pointer_fills row h to _

  address_fills : (row : List (Cell I)) → AreFilled row → (to base offset : ℕ) (found : Option BaseInfo) → IsLeftFilled (address_in l n flow row to base offset found)
  address_fills row h to base offset None = tt
  address_fills row h to base offset (Some info) = pointer_fills row h to _

  loaded_fills : (row : List (Cell I)) → AreFilled row → (to : ℕ) (kind : Scalar) (found : Option (values.Value I)) → IsLeftFilled (put_loaded l n flow row to kind found)
  unfolding put_read
  loaded_fills row h to kind None = tt
  loaded_fills row h to scalar.Pointer (Some v) = pointer_fills row h to v.pointer
  loaded_fills row h to (scalar.Int kind) (Some v) = number_fills row h to (number_value l v.num v.labels)

  moved_fills : (kept : Option (ℕ × ℕ)) (row : List (Cell I)) → AreFilled row → AreFilled (move_temp l n flow kept row)
  unfolding move_temp
  moved_fills None row h = h
  moved_fills (Some p) row h = temp_fills row h p.0 _

  behind_fills : (kept : Option (ℕ × ℕ)) (x : Option (List (Cell I))) → IsLeftFilled x → IsLeftFilled (moved_behind l n flow kept x)
  behind_fills kept None h = tt
  behind_fills kept (Some row) h = moved_fills kept row h

  target_fills : (to : ℕ) (p : Pointers I) (x : Option (List (Cell I))) → IsLeftFilled x → IsLeftFilled (kept_target l flow to p x)
  target_fills to p None h = tt
  target_fills to p (Some row) h = temp_fills row h to (pointer_value l p)

  -- ---- instructions

  pub operate_fills : (p : Operation) → IsRising l n all flow p → LeavesFilled (λ row. operate l n flow row p)
  unfolding operate constant_step binary_step unary_step compare_step not_step convert_step address_step narrow_step narrow_touched shift_step shift_by put_moved difference_step relation_step load_step store_step store_to copy_step copy_between
  operate_fills (op.Constant to number kind) u row h = number_fills row h to _
  operate_fills (op.Binary to q left right kind) u row h = left_if (is_size kind.bytes) _ (number_fills row h to _)
  operate_fills (op.Unary to q operand kind) u row h = left_if (is_size kind.bytes) _ (number_fills row h to _)
  operate_fills (op.Compare to rel left right) u row h = truth_fills row h to _
  operate_fills (op.Not to operand kind) u row h = truth_fills row h to _
  operate_fills (op.Convert to operand from kind) u row h = converted_fills row h to _ from kind
  operate_fills (op.Address to base offset) u row h = address_fills row h to base offset (slice_get flow.bases.items base)
  operate_fills (op.Narrow to pointer offset size) u row h = left_if (is_short offset) _ (left_if (is_short size) _ (pointer_fills row h to _))
  operate_fills (op.Shift to pointer amount scale backwards) u row h = left_if (is_short scale) _ (left_unless _ _ (pointer_fills row h to _))
  operate_fills (op.Difference to left right size) u row h = left_if _ _ (number_fills row h to _)
  operate_fills (op.ComparePointers to rel left right) u row h = truth_fills row h to _
  operate_fills (op.Load to pointer kind) u row h = loaded_fills row h to kind _
  operate_fills (op.Store pointer value kind kept) u row h = behind_fills kept _ (store_fills l n flow.model flow.bases.items _ (class_of kind).0 (class_of kind).1 _ row h)
  operate_fills (op.Copy to from index) u row h = target_fills to _ _ (u.fills index _ _ row h)
  operate_fills (op.Library to function arguments newest wanted) u row h = u.fills to arguments.items newest wanted row h
  operate_fills (op.ReadLine to line count stream) u row h = left_if (line_goes_on l n flow row line count stream) (Some row) h
  operate_fills (op.Enter base) u row h = forget_fills l n flow.bases.items base row h
  operate_fills (op.Leave base) u row h = leave_fills l n flow.bases.items base row h
  operate_fills (op.Forget base) u row h = forget_fills l n flow.bases.items base row h
  operate_fills (op.Clear base) u row h = clear_fills l n flow.bases.items base row h
  operate_fills (op.Spell base offset room text) u row h = spell_fills l n flow.bases.items base offset room text row h
  operate_fills op.Jump u row h = h
  operate_fills (op.Branch temp kind) u row h = h
  operate_fills (op.Switch temp kind) u row h = h
  operate_fills op.Stop u row h = tt

  rows_fill : (is : List Instruction) → ((at : ℕ) (i : Instruction) → slice_get is at ≡ Some i → IsRising l n all flow i.operation) → (x : Option (List (Cell I))) → IsLeftFilled x → IsLeftFilled (rows_behind l n flow x is)
  rows_fill [] e x h = h
  rows_fill (i ∷ is) e None h = rows_fill is (λ at d q. e (suc at) d q) None tt
  rows_fill (i ∷ is) e (Some row) h = rows_fill is (λ at d q. e (suc at) d q) (operate l n flow row i.operation) (operate_fills i.operation (e 0 i refl) row h)

  block_rising : AreRising l n all flow → (block : ℕ) (found : Option BasicBlock) → slice_get flow.blocks.items block ≡ found → (at : ℕ) (i : Instruction) → slice_get (instructions_in found) at ≡ Some i → IsRising l n all flow i.operation
  block_rising rising block None e at i q = absurd (cc)
  block_rising rising block (Some c) e at i q = rising.instructions block at c i e q

  pub block_fills : AreRising l n all flow → (block : ℕ) → LeavesFilled (block_end l n flow block)
  unfolding block_end
  block_fills rising block row h = rows_fill (instructions_of flow block) (block_rising rising block (slice_get flow.blocks.items block) refl) (Some row) h

  -- ---- edges

  at_fills : (at : Option ℕ) (v : values.Value I) → Fills (put_at at v)
  unfolding put_at
  at_fills None v row h = h
  at_fills (Some at) v row h = fill_set row at (Value v) tt h

  side_fills : (side : Side) (v : values.Value I) → Fills (put_side flow side v)
  unfolding put_side
  side_fills (Object base kind) v row h = at_fills (object_position flow base) v row h
  side_fills (Number number) v row h = h
  side_fills Null v row h = h

  one_fills : (side : Side) (v : values.Value I) → LeavesFilled (refine_one n flow side v)
  unfolding refine_one
  one_fills side v row h = left_if (has_number n v) (Some (put_side flow side v row)) (side_fills side v row h)

  two_fill : (test : Test) (v w : values.Value I) → LeavesFilled (refine_two n flow test v w)
  unfolding refine_two
  two_fill test v w row h = left_if (has_number n v && has_number n w) (Some (put_side flow test.right w (put_side flow test.left v row))) (side_fills test.right w (put_side flow test.left v row) (side_fills test.left v row h))

  sides_fill : (test : Test) (v w : values.Value I) → LeavesFilled (refine_sides l n flow test v w)
  unfolding refine_sides
  sides_fill test v w row h = left_either (is_same_object test.left test.right) (refine_one n flow test.left (met l n v w) row) (refine_two n flow test v w row) (one_fills test.left (met l n v w) row h) (two_fill test v w row h)

  values_fill : (test : Test) (kind : IntType) (v w : values.Value I) → LeavesFilled (refine_values l n flow test kind v w)
  unfolding refine_values
  values_fill test kind v w row h = sides_fill test (refined n v test.rel w kind) (refined n w (mirrored test.rel) v kind) row h

  integers_fill : (test : Test) (kind : IntType) → LeavesFilled (refine_integers l n flow test kind)
  unfolding refine_integers
  integers_fill test kind row h = values_fill test kind (side_value l n flow row test.left) (side_value l n flow row test.right) row h

  pointer_at_fills : (at : Option ℕ) (rel : Rel) → Fills (refine_pointer_at l n at rel)
  pointer_at_fills None rel row h = h
  pointer_at_fills (Some at) rel row h = fill_set row at (Value _) tt h

  named_fills : (base : Option ℕ) (rel : Rel) → Fills (refine_named l n flow base rel)
  unfolding refine_named refine_pointer
  named_fills None rel row h = h
  named_fills (Some base) rel row h = pointer_at_fills (object_position flow base) rel row h

  in_fills : (test : Test) (common : Option IntType) → LeavesFilled (refine_in l n flow test common)
  in_fills test (Some kind) row h = integers_fill test kind row h
  in_fills test None row h = named_fills (named_by test.left test.right) test.rel row h

  test_fills : (test : Option Test) → LeavesFilled (refine_if l n flow test)
  unfolding refine_if refine
  test_fills None row h = h
  test_fills (Some test) row h = in_fills test test.common row h

  kept_fills : (kept : Option (ℕ × ℤ)) (x : Option (List (Cell I))) → IsLeftFilled x → IsLeftFilled (kept_behind l n flow kept x)
  unfolding put_kept
  kept_fills kept None h = tt
  kept_fills None (Some row) h = h
  kept_fills (Some p) (Some row) h = temp_fills row h p.0 _

  case_put_fills : (at : ℕ) (v : values.Value I) (x : I) → LeavesFilled (put_case n at v x)
  unfolding put_case
  case_put_fills at v x row h = left_if (is_some (n.bounds x)) (Some (put_value row at (with_number v x))) (fill_set row at (Value (with_number v x)) tt h)

  case_at_fills : (at : Option ℕ) (number : ℤ) → LeavesFilled (refine_case_at l n at number)
  unfolding refine_value
  case_at_fills None number row h = h
  case_at_fills (Some at) number row h = case_put_fills at (value_at l n row at) (labelled_number l n (value_at l n row at) number) row h

  named_case_fills : (base : Option ℕ) (number : ℤ) → LeavesFilled (refine_named_case l n flow base number)
  unfolding refine_case
  named_case_fills None number row h = h
  named_case_fills (Some base) number row h = case_at_fills (object_position flow base) number row h

  null_fills : (to : Option ℕ) (row : List (Cell I)) → AreFilled row → AreFilled (put_null l flow to row)
  null_fills None row h = h
  null_fills (Some temp) row h = temp_fills row h temp _

  follow_fills : (from : ℕ) (e : EdgeKind) → IsRisingEdge l n all flow e → LeavesFilled (λ row. follow l n flow row from e)
  unfolding follow branch_edge behind_test case_edge refine_object no_line_edge line_edge
  follow_fills from kind.Jump u row h = h
  follow_fills from (kind.When truth test kept) u row h = left_if _ _ (kept_fills kept _ (test_fills test row h))
  follow_fills from (kind.Case test) u row h = left_if _ _ (named_case_fills test.object test.value row h)
  follow_fills from (kind.Other labels) u row h = left_if (is_other_than (switched l n flow row (deciding_temp flow from)) labels.items) (Some row) h
  follow_fills from kind.NoLine u row h = elim (line_call flow from) as (λ c. IsLeftFilled (no_line_edge l flow row c)) [ None ↦ tt | Some c ↦ null_fills c.to_temp row h ]
  follow_fills from kind.Line u row h = elim (line_call flow from) as (λ c. IsLeftFilled (line_edge l n flow row c)) [ None ↦ tt | Some c ↦ u.fills c.to_temp c.line c.count c.stream row h ]

  follow_if_fills : (e : Option Edge) → ((d : Edge) → e ≡ Some d → IsRisingEdge l n all flow d.kind) → LeavesFilled (λ row. follow_if l n flow row e)
  follow_if_fills None t row h = tt
  follow_if_fills (Some e) t row h = follow_fills e.from e.kind (t e refl) row h

  pub edge_fills : AreRising l n all flow → (number : ℕ) → LeavesFilled (λ row. edge l n flow row number)
  unfolding edge
  edge_fills rising number row h = follow_if_fills (slice_get flow.edges.items number) (λ d e. rising.edges number d e) row h

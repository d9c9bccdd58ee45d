-- What an instruction makes of a row: the row after it, None where no run goes on.
use Rattle.std.specs.Prelude.{ℕ, cond, Option, Some, None, List, slice_get}
use Rattle.cc_base.specs.Lattices.{LatticeOf}
use Rattle.cc_base.specs.IntegerDomains.{IntegersOf}
use Rattle.cfg.specs.declared.programs.Flow.{Flow}
use Rattle.cfg.specs.declared.basic_blocks.BasicBlock.{BasicBlock}
use Rattle.cfg.specs.declared.machine_instructions.Instruction.{Instruction}
use Rattle.cfg.specs.declared.machine_instructions.Operation.{Operation}
use Rattle.cfg.specs.declared.machine_instructions.Operation.TheVariants as op
use Rattle.value_domain.specs.declared.values.row_cells.Cell.{Cell}
use Rattle.store.specs.ObjectLives.{forget, leave, clear}
use Rattle.store.specs.Spelling.{spell}
use Rattle.transfer_instructions.specs.Values.IntegerSteps.{constant_step, binary_step, unary_step, compare_step, not_step, convert_step}
use Rattle.transfer_instructions.specs.Values.PointerSteps.{address_step, narrow_step, shift_step, difference_step, relation_step}
use Rattle.transfer_instructions.specs.Instructions.MemorySteps.{load_step, store_step, copy_step}
use Rattle.transfer_instructions.specs.Instructions.CallSteps.{call_step, line_goes_on}

module _ {I : Type 0} where
  -- an operation; what ends a block leaves the row to the edges
  unfoldable pub operate : LatticeOf I → IntegersOf I → Flow → List (Cell I) → Operation → Option (List (Cell I))
  operate l n flow row (op.Constant to number kind) = constant_step l n flow row to number
  operate l n flow row (op.Binary to o left right kind) = binary_step l n flow row to o left right kind
  operate l n flow row (op.Unary to o operand kind) = unary_step l n flow row to o operand kind
  operate l n flow row (op.Compare to rel left right) = compare_step l n flow row to rel left right
  operate l n flow row (op.Not to operand kind) = not_step l n flow row to operand
  operate l n flow row (op.Convert to operand from kind) = convert_step l n flow row to operand from kind
  operate l n flow row (op.Address to base offset) = address_step l n flow row to base offset
  operate l n flow row (op.Narrow to pointer offset size) = narrow_step l n flow row to pointer offset size
  operate l n flow row (op.Shift to pointer amount scale backwards) = shift_step l n flow row to pointer amount scale backwards
  operate l n flow row (op.Difference to left right size) = difference_step l n flow row to left right size
  operate l n flow row (op.ComparePointers to rel left right) = relation_step l n flow row to rel left right
  operate l n flow row (op.Load to pointer kind) = load_step l n flow row to pointer kind
  operate l n flow row (op.Store pointer value kind kept) = store_step l n flow row pointer value kind kept
  operate l n flow row (op.Copy to from index) = copy_step l n flow row to from index
  operate l n flow row (op.Library to function arguments newest wanted) = call_step l n flow row to function arguments.items newest wanted
  operate l n flow row (op.ReadLine to line count stream) = cond (line_goes_on l n flow row line count stream) (Some row) None
  operate l n flow row (op.Enter base) = Some (forget l n flow.bases.items base row)
  operate l n flow row (op.Leave base) = Some (leave l flow.bases.items base row)
  operate l n flow row (op.Forget base) = Some (forget l n flow.bases.items base row)
  operate l n flow row (op.Clear base) = Some (clear l n flow.bases.items base row)
  operate l n flow row (op.Spell base offset room text) = Some (spell l n flow.bases.items base offset room text row)
  operate l n flow row op.Jump = Some row
  operate l n flow row (op.Branch temp kind) = Some row
  operate l n flow row (op.Switch temp kind) = Some row
  operate l n flow row op.Stop = None

  abbrev pub operate_if : LatticeOf I → IntegersOf I → Flow → List (Cell I) → Option Instruction → Option (List (Cell I))
  operate_if l n flow row None = None
  operate_if l n flow row (Some i) = operate l n flow row i.operation

  abbrev pub step_in : LatticeOf I → IntegersOf I → Flow → List (Cell I) → ℕ → Option BasicBlock → Option (List (Cell I))
  step_in l n flow row at None = None
  step_in l n flow row at (Some block) = operate_if l n flow row (slice_get block.instructions.items at)

  -- an instruction of a block
  unfoldable pub step : LatticeOf I → IntegersOf I → Flow → List (Cell I) → ℕ → ℕ → Option (List (Cell I))
  step l n flow row block at = step_in l n flow row at (slice_get flow.blocks.items block)

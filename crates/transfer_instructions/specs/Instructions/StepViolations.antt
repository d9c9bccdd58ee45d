-- What an instruction may violate.
use Rattle.std.specs.Prelude.{ℕ, Option, Some, None, List, slice_get}
use Rattle.cc_base.specs.Lattices.{LatticeOf}
use Rattle.cc_base.specs.IntegerDomains.{IntegersOf}
use Rattle.cc_base.specs.declared.integer_operators.Rel.{Rel}
use Rattle.cc_base.specs.declared.integer_operators.Rel.TheVariants.{Lt, Le, Gt, Ge, Eq, Ne}
use Rattle.cfg.specs.declared.programs.Flow.{Flow}
use Rattle.cfg.specs.declared.basic_blocks.BasicBlock.{BasicBlock}
use Rattle.cfg.specs.declared.machine_instructions.Instruction.{Instruction}
use Rattle.cfg.specs.declared.machine_instructions.Operation.{Operation}
use Rattle.cfg.specs.declared.machine_instructions.Operation.TheVariants as op
use Rattle.value_domain.specs.declared.values.row_cells.Cell.{Cell}
use Rattle.transfer_checks.specs.declared.violation_sets.Violations.{Violations}
use Rattle.transfer_checks.specs.ViolationSets.{no_violations}
use Rattle.transfer_instructions.specs.Values.IntegerSteps.{binary_checks, unary_checks}
use Rattle.transfer_instructions.specs.Values.PointerSteps.{narrow_violations, shift_checks, comparison_violations, equality_violations}
use Rattle.transfer_instructions.specs.Instructions.MemorySteps.{load_violations, store_violations, copy_violations}
use Rattle.transfer_instructions.specs.Instructions.CallSteps.{call_violations, line_violations}

module _ {I : Type 0} where
  -- a relation of two pointers
  abbrev pub relation_violations : LatticeOf I → IntegersOf I → Flow → List (Cell I) → Rel → ℕ → ℕ → Violations
  relation_violations l n flow row Eq left right = equality_violations l n flow row left right
  relation_violations l n flow row Ne left right = equality_violations l n flow row left right
  relation_violations l n flow row Lt left right = comparison_violations l n flow row left right
  relation_violations l n flow row Le left right = comparison_violations l n flow row left right
  relation_violations l n flow row Gt left right = comparison_violations l n flow row left right
  relation_violations l n flow row Ge left right = comparison_violations l n flow row left right

  -- an operation in the row before it
  unfoldable pub operation_violations : LatticeOf I → IntegersOf I → Flow → List (Cell I) → Operation → Violations
  operation_violations l n flow row (op.Binary to o left right kind) = binary_checks l n flow row o left right kind
  operation_violations l n flow row (op.Unary to o operand kind) = unary_checks l n flow row o operand kind
  operation_violations l n flow row (op.Narrow to pointer offset size) = narrow_violations l n flow row pointer offset size
  operation_violations l n flow row (op.Shift to pointer amount scale backwards) = shift_checks l n flow row pointer amount scale backwards
  operation_violations l n flow row (op.Difference to left right size) = comparison_violations l n flow row left right
  operation_violations l n flow row (op.ComparePointers to rel left right) = relation_violations l n flow row rel left right
  operation_violations l n flow row (op.Load to pointer kind) = load_violations l n flow row pointer kind
  operation_violations l n flow row (op.Store pointer value kind kept) = store_violations l n flow row pointer kind
  operation_violations l n flow row (op.Copy to from index) = copy_violations l n flow row to from index
  operation_violations l n flow row (op.Library to function arguments newest wanted) = call_violations l n flow row function arguments.items wanted
  operation_violations l n flow row (op.ReadLine to line count stream) = line_violations l n flow row line count stream
  operation_violations l n flow row _ = no_violations

  abbrev pub violations_of : LatticeOf I → IntegersOf I → Flow → List (Cell I) → Option Instruction → Violations
  violations_of l n flow row None = no_violations
  violations_of l n flow row (Some i) = operation_violations l n flow row i.operation

  abbrev pub violations_in : LatticeOf I → IntegersOf I → Flow → List (Cell I) → ℕ → Option BasicBlock → Violations
  violations_in l n flow row at None = no_violations
  violations_in l n flow row at (Some block) = violations_of l n flow row (slice_get block.instructions.items at)

  -- an instruction of a block in the row before it
  unfoldable pub violations_at : LatticeOf I → IntegersOf I → Flow → List (Cell I) → ℕ → ℕ → Violations
  violations_at l n flow row block at = violations_in l n flow row at (slice_get flow.blocks.items block)

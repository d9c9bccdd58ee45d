-- Programs whose copies of structs grow with the row.
use Rattle.std.specs.Prelude.{◌≡◌, ℕ, Bool, true, false, Some, slice_get}
use Rattle.cfg.specs.declared.programs.Flow.{Flow}
use Rattle.cfg.specs.declared.basic_blocks.BasicBlock.{BasicBlock}
use Rattle.cfg.specs.declared.machine_instructions.Instruction.{Instruction}
use Rattle.cfg.specs.declared.machine_instructions.Operation.{Operation}
use Rattle.cfg.specs.declared.machine_instructions.Operation.TheVariants as op
use Rattle.system_monotone.specs.StructCopies.SpreadStructs.{AreSpread}

abbrev pub is_copy : Operation → Bool
is_copy (op.Copy to from index) = true
is_copy _ = false

-- where a program copies a struct, the leaves of its structs share no bytes
abbrev pub CopiesSpread : Flow → Type 0
CopiesSpread flow = (block at : ℕ) (b : BasicBlock) (i : Instruction) → slice_get flow.blocks.items block ≡ Some b → slice_get b.instructions.items at ≡ Some i → is_copy i.operation ≡ true → AreSpread flow

-- Programs whose instructions and edges name what is there, with numbers of integer types.
use Rattle.std.specs.Prelude.{◌≡◌, ℕ, true, Some, slice_get}
use Rattle.cfg.specs.declared.programs.Flow.{Flow}
use Rattle.cfg.specs.declared.basic_blocks.BasicBlock.{BasicBlock}
use Rattle.cfg.specs.declared.flow_edges.Edge.{Edge}
use Rattle.cfg.specs.declared.machine_instructions.Instruction.{Instruction}
use Rattle.cfg.specs.WellFormed.{names_of, fits_operation, fits_edge}

pub record IsFitting (flow : Flow) : Type 0 where
  pub instructions : (block at : ℕ) (b : BasicBlock) (i : Instruction) → slice_get flow.blocks.items block ≡ Some b → slice_get b.instructions.items at ≡ Some i → fits_operation (names_of flow) i.operation ≡ true
  pub edges : (number : ℕ) (e : Edge) → slice_get flow.edges.items number ≡ Some e → fits_edge (names_of flow) e.kind ≡ true

-- What of a program well-formedness does not say: the characters of its texts are bytes, and the objects that its tests name
-- have leaves.
use Rattle.std.specs.Prelude.{◌≡◌, ℕ, Some, slice_get}
use Rattle.cfg.specs.declared.programs.Flow.{Flow}
use Rattle.cfg.specs.declared.basic_blocks.BasicBlock.{BasicBlock}
use Rattle.cfg.specs.declared.flow_edges.Edge.{Edge}
use Rattle.cfg.specs.declared.machine_instructions.Instruction.{Instruction}
use Rattle.transfer_monotone.specs.Edges.ProgramLaws.{HasBytes, FollowsLeaves}

pub record HasScalars (flow : Flow) : Type 0 where
  pub texts : (block at : ℕ) (b : BasicBlock) (i : Instruction) → slice_get flow.blocks.items block ≡ Some b → slice_get b.instructions.items at ≡ Some i → HasBytes i.operation
  pub tests : (number : ℕ) (e : Edge) → slice_get flow.edges.items number ≡ Some e → FollowsLeaves flow e.kind

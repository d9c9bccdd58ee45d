-- The row at the start of a block, taken to the end of one of its edges.
use Rattle.std.specs.Prelude.{ℕ, Bool, cond, Option, Some, None, List, [], ◌∷◌, slice_get}
use Rattle.cc_base.specs.Lattices.{LatticeOf}
use Rattle.cc_base.specs.IntegerDomains.{IntegersOf}
use Rattle.cfg.specs.declared.programs.Flow.{Flow}
use Rattle.cfg.specs.declared.basic_blocks.BasicBlock.{BasicBlock}
use Rattle.cfg.specs.declared.machine_instructions.Instruction.{Instruction}
use Rattle.value_domain.specs.declared.values.row_cells.Cell.{Cell}
use Rattle.transfer_instructions.specs.Instructions.Steps.{operate}
use Rattle.transfer_edges.specs.Edges.{edge}

abbrev pub instructions_in : Option BasicBlock → List Instruction
instructions_in None = []
instructions_in (Some block) = block.instructions.items

-- the instructions of a block
abbrev pub instructions_of : Flow → ℕ → List Instruction
instructions_of flow number = instructions_in (slice_get flow.blocks.items number)

module _ {I : Type 0} where
  -- a row that is reached
  abbrev pub reached_row : Bool → List (Cell I) → Option (List (Cell I))
  reached_row reached row = cond reached (Some row) None

  -- the row behind an instruction, where the row before it is reached
  abbrev pub row_behind : LatticeOf I → IntegersOf I → Flow → Instruction → Option (List (Cell I)) → Option (List (Cell I))
  row_behind l n flow i None = None
  row_behind l n flow i (Some row) = operate l n flow row i.operation

  -- the row behind instructions in order
  abbrev pub rows_behind : LatticeOf I → IntegersOf I → Flow → Option (List (Cell I)) → List Instruction → Option (List (Cell I))
  rows_behind l n flow row [] = row
  rows_behind l n flow row (i ∷ is) = rows_behind l n flow (row_behind l n flow i row) is

  -- the row at the end of a block
  unfoldable pub block_end : LatticeOf I → IntegersOf I → Flow → ℕ → List (Cell I) → Option (List (Cell I))
  block_end l n flow block row = rows_behind l n flow (Some row) (instructions_of flow block)

  abbrev pub edge_behind : LatticeOf I → IntegersOf I → Flow → ℕ → Option (List (Cell I)) → Option (List (Cell I))
  edge_behind l n flow number None = None
  edge_behind l n flow number (Some row) = edge l n flow row number

  -- the row at the end of an edge of a block
  unfoldable pub edge_end : LatticeOf I → IntegersOf I → Flow → ℕ → ℕ → List (Cell I) → Option (List (Cell I))
  edge_end l n flow block number row = edge_behind l n flow number (block_end l n flow block row)

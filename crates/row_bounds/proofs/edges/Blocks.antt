-- Blocks and the edges behind them leave rows from a floor on.
use Rattle.std.specs.Prelude.{◌≡◌, ℕ, suc, ℤ, true, Option, Some, None, List, [], ◌∷◌, slice_get, refl}
use Rattle.cc_base.specs.Lattices.{LatticeOf}
use Rattle.cc_base.specs.IntegerDomains.{IntegersOf}
use Rattle.cfg.specs.declared.programs.Flow.{Flow}
use Rattle.cfg.specs.declared.basic_blocks.BasicBlock.{BasicBlock}
use Rattle.cfg.specs.declared.machine_instructions.Instruction.{Instruction}
use Rattle.cfg.specs.WellFormed.{names_of, fits_operation}
use Rattle.value_domain.specs.declared.values.row_cells.Cell.{Cell}
use Rattle.transfer_system.specs.Steps.{operate}
use Rattle.transfer_system.specs.System.BlockPasses.{instructions_in, instructions_of, rows_behind, block_end, edge_behind, edge_end}
use Rattle.row_bounds.specs.Stores.Floors.{IsLeftFrom, LeavesFrom}
use Rattle.row_bounds.proofs.stores.Ranges.{FloorLaws}
use Rattle.row_bounds.specs.Steps.FittingPrograms.{IsFitting}
use Rattle.row_bounds.proofs.steps.Steps.{operate_keeps}
use Rattle.row_bounds.proofs.steps.Edges.{edge_keeps}

module _ {I : Type 0} {l : LatticeOf I} {n : IntegersOf I} {stands : I → ℤ → Type 0} {floor : ℤ} (k : FloorLaws l n stands floor) (flow : Flow) (fitting : IsFitting flow) where
  rows_keep : (is : List Instruction) → ((at : ℕ) (i : Instruction) → slice_get is at ≡ Some i → fits_operation (names_of flow) i.operation ≡ true) → (x : Option (List (Cell I))) → IsLeftFrom n floor x → IsLeftFrom n floor (rows_behind l n flow x is)
  rows_keep [] e x h = h
  rows_keep (i ∷ is) e None h = rows_keep is (λ at d q. e (suc at) d q) None tt
  rows_keep (i ∷ is) e (Some row) h = rows_keep is (λ at d q. e (suc at) d q) (operate l n flow row i.operation) (operate_keeps k flow i.operation (e 0 i refl) row h)

  block_fits : (block : ℕ) (found : Option BasicBlock) → slice_get flow.blocks.items block ≡ found → (at : ℕ) (i : Instruction) → slice_get (instructions_in found) at ≡ Some i → fits_operation (names_of flow) i.operation ≡ true
  block_fits block None e at i q = absurd (cc)
  block_fits block (Some c) e at i q = fitting.instructions block at c i e q

  block_keeps : (block : ℕ) → LeavesFrom n floor (block_end l n flow block)
  unfolding block_end
  block_keeps block row h = rows_keep (instructions_of flow block) (block_fits block (slice_get flow.blocks.items block) refl) (Some row) h

  behind_keeps : (number : ℕ) (x : Option (List (Cell I))) → IsLeftFrom n floor x → IsLeftFrom n floor (edge_behind l n flow number x)
  behind_keeps number None h = tt
  behind_keeps number (Some row) h = edge_keeps k flow number (λ e q. fitting.edges number e q) row h

  pub end_keeps : (block number : ℕ) → LeavesFrom n floor (edge_end l n flow block number)
  unfolding edge_end
  end_keeps block number row h = behind_keeps number (block_end l n flow block row) (block_keeps block row h)

-- Runs of a program and runs of it with turns unrolled: each step is the same, in some copy of the blocks.
use Rattle.std.specs.Prelude.{◌≡◌, ℕ, ◌+◌, ◌<◌, ◌≤◌, ℤ, List, length, Some, slice_get}
use Rattle.c_layout.specs.CheckedUnits.{UnitView}
use Rattle.lower_templates.specs.Views.ProgramViews.{BlockView, EdgeView, FlowView}
use Rattle.semantics.specs.CfgMachine.FlowStates.{ProgramState, FlowRun, running, stopped}
use Rattle.semantics.specs.CfgMachine.FlowSteps.{flow_steps}
use Rattle.semantics.specs.CfgMachine.FlowStarts.{flow_begin}
use Rattle.loop_unrolling.specs.Turns.{copies, number_in, split}

-- there is a block, the edges of each block are there, and each edge leads to a block
pub record IsLinked (f : FlowView) : Type 0 where
  pub some : 0 < length f.blocks
  pub edges : (b : ℕ) (v : BlockView) → slice_get f.blocks b ≡ Some v → v.first_edge + v.edges ≤ length f.edges
  pub targets : (j : ℕ) (e : EdgeView) → slice_get f.edges j ≡ Some e → e.to < length f.blocks

-- the same place in a copy
abbrev pub in_copy : ℕ → ℕ → ProgramState → ProgramState
in_copy blocks copy s = record s { block = number_in blocks copy s.block }

pub record IsCopied (turns : ℕ) (f : FlowView) (s t : ProgramState) : Type 0 where
  pub copy : ℕ
  pub among : copy < copies turns
  pub block : s.block < length f.blocks
  pub place : t ≡ in_copy (length f.blocks) copy s

-- both go on, in the same place of a copy, or both have stopped, for the same reason; memory, draws and violations are
-- the same
abbrev pub SameRun : ℕ → FlowView → FlowRun → FlowRun → Type 0
SameRun turns f (running s found) (running t more) = IsCopied turns f s t × (more ≡ found)
SameRun turns f (stopped why w found) (stopped reason v more) = (reason ≡ why) × ((v ≡ w) × (more ≡ found))
SameRun turns f one other = ⊥

-- after any number of steps from the start
abbrev pub RunsAreSame : ℕ → FlowView → Type 0
RunsAreSame turns f = (u : UnitView) (draws : List ℤ) (steps : ℕ) → SameRun turns f (flow_steps f steps (flow_begin u f draws)) (flow_steps (split turns f) steps (flow_begin u (split turns f) draws))

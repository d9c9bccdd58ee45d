-- Units that are plain but for their loops: where the one run takes no more turns of them than are unrolled, it is told exactly.
use Rattle.std.specs.Prelude.{◌≡◌, ◌↔◌, ◌*◌, ◌<◌, ℕ, ℤ, List, [], length}
use Rattle.std.specs.List.{Contains}
use Rattle.cc_base.specs.declared.diagnostics.Diag.{Diag}
use Rattle.cc_base.specs.declared.limit_table.Limits.{Limits}
use Rattle.c_layout.specs.CheckedUnits.{UnitView}
use Rattle.cfg.specs.declared.machine_instructions.Operation.{Operation}
use Rattle.cfg.specs.declared.programs.Flow.{Flow}
use Rattle.lower_templates.specs.Views.ProgramViews.{flow_view}
use Rattle.semantics.specs.CfgMachine.FlowStates.{ProgramState, running}
use Rattle.semantics.specs.CfgMachine.FlowSteps.{flow_steps}
use Rattle.semantics.specs.CfgMachine.FlowStarts.{flow_begin}
use Rattle.memory_model.specs.Effects.Worlds.{Violation}
use Rattle.semantics.specs.SourceMachine.SourceRuns.{Run}
use Rattle.simulation_units.specs.CheckedUnits.LookedRuns.{PassesLooks}
use Rattle.simulation_units.specs.Termination.EndedRuns.{HasStopped}
use Rattle.loop_unrolling.specs.Turns.{last_copy, split}
use Rattle.transfer_sound.specs.Induction.SoundEnds.{IsDoneIn}
use Rattle.transfer_exact.specs.Values.SingleRows.{IsPlainProgram}
use Rattle.analysis_determined.specs.Analyses.{IsAnalysis}
use Rattle.entry_sound.specs.Checked.CheckedStarts.{IsUnitOf}
use Rattle.run_exact.specs.Runs.SingleRuns.{IsPlainOperation, HasTypedAccesses}
use Rattle.unit_exact.specs.Units.SingleUnits.{RunViolates}
use Rattle.simulation_units.specs.Units.UnitRuns.{IsProgramOf}

-- the run under no numbers of the outside goes so many times at most to a block from that block or a later one: with so many turns
-- unrolled it never comes to the last copy
abbrev pub TakesTurns : ℕ → Flow → UnitView → Type 0
TakesTurns turns flow u = (count : ℕ) (s : ProgramState) (found : List Violation) → flow_steps (split turns (flow_view flow)) count (flow_begin u (split turns (flow_view flow)) []) ≡ running s found → s.block < last_copy turns * length flow.blocks.items

-- plain, but for loops and jumps back
pub record IsSingleUpTo (turns : ℕ) (flow : Flow) (u : UnitView) : Type 0 where
  pub plain : IsPlainProgram flow
  pub parameters : flow.parameters.items ≡ []
  pub calls : (o : Operation) → IsDoneIn flow o → IsPlainOperation o
  pub takes : TakesTurns turns flow u
  pub steps : HasTypedAccesses flow u

-- what an analysis with so many turns unrolled finds of a unit whose run ends is just what that run violates
abbrev pub LoopedUnitsAreExact : Type 0
LoopedUnitsAreExact = (turns : ℕ) (flow turned : Flow) (list : List ℤ) (found : List Diag) → flow_view turned ≡ split turns (flow_view flow) → IsAnalysis turned list found
    → (u : UnitView) (limits : Limits) → IsUnitOf u flow → IsProgramOf u limits flow → PassesLooks u → IsSingleUpTo turns flow u → (end : ℕ) → HasStopped (Run u [] end)
    → (d : Diag) → Contains found d ↔ RunViolates u (record { at = d.place; rule = d.rule })

-- Programs of plain units: each scalar has a cell of its own, nothing is allocated or comes in, few library
-- functions are called, and no edge leads back.
use Rattle.std.specs.Prelude.{◌≡◌, ◌<◌, ℕ, true, false, [], Some, slice_get}
use Rattle.cc_base.specs.declared.limit_table.Limits.{Limits}
use Rattle.c_layout.specs.CheckedUnits.{UnitView}
use Rattle.cfg.specs.declared.flow_edges.Edge.{Edge}
use Rattle.cfg.specs.declared.machine_instructions.Operation.{Operation}
use Rattle.cfg.specs.declared.programs.Flow.{Flow}
use Rattle.typed_programs.specs.PlainUnits.PlainUnits.{is_plain_unit}
use Rattle.transfer_system.specs.System.FlowMachines.{is_head_at}
use Rattle.typed_programs.specs.SoundEnds.{IsDoneIn}
use Rattle.typed_programs.specs.SingleRows.{IsPlainProgram}
use Rattle.typed_programs.specs.SingleRuns.{IsPlainOperation}
use Rattle.simulation_units.specs.Units.UnitRuns.{IsProgramOf}

pub record IsPlainFlow (flow : Flow) : Type 0 where
  pub plain : IsPlainProgram flow
  pub parameters : flow.parameters.items ≡ []
  pub calls : (o : Operation) → IsDoneIn flow o → IsPlainOperation o
  -- no edge enters a block from that block or a later one
  pub headless : (b : ℕ) → is_head_at flow.blocks.items b ≡ false
  pub onwards : (j : ℕ) (e : Edge) → slice_get flow.edges.items j ≡ Some e → e.from < e.to

-- a plain unit is lowered to such a program
abbrev pub PlainUnitsHavePlainPrograms : Type 0
PlainUnitsHavePlainPrograms = (u : UnitView) (limits : Limits) (flow : Flow) → IsProgramOf u limits flow → is_plain_unit u ≡ true → IsPlainFlow flow

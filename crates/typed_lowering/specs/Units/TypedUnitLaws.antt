-- In the run of a plain unit whose pointers point to what their types say each access is of the type of what lies there.
use Rattle.std.specs.Prelude.{◌≡◌, true, []}
use Rattle.cc_base.specs.declared.limit_table.Limits.{Limits}
use Rattle.c_layout.specs.CheckedUnits.{UnitView}
use Rattle.cfg.specs.declared.machine_instructions.Operation.{Operation}
use Rattle.cfg.specs.declared.programs.Flow.{Flow}
use Rattle.typed_lowering.specs.LoopedUnits.LoopedUnits.{is_looped_unit}
use Rattle.typed_programs.specs.PlainUnits.PlainUnits.{is_plain_unit}
use Rattle.typed_lowering.specs.Conversions.TypedUnits.{is_typed_unit}
use Rattle.typed_programs.specs.Types.StandingTypes.{AreLaidOut}
use Rattle.typed_programs.specs.Types.TypedPrograms.{structs_of}
use Rattle.typed_programs.specs.SoundEnds.{IsDoneIn}
use Rattle.typed_programs.specs.SingleRows.{IsPlainProgram}
use Rattle.typed_programs.specs.SingleRuns.{IsPlainOperation, HasTypedAccesses}
use Rattle.simulation_units.specs.Units.UnitRuns.{IsProgramOf}

abbrev pub TypedUnitsHaveTypedAccesses : Type 0
TypedUnitsHaveTypedAccesses = (u : UnitView) (limits : Limits) (flow : Flow) → IsProgramOf u limits flow → AreLaidOut flow.model (structs_of flow) → is_plain_unit u ≡ true → is_typed_unit u ≡ true → HasTypedAccesses flow u

-- ---- units with loops

-- the program of a unit that is plain but for loops
pub record IsLoopedFlow (flow : Flow) (u : UnitView) : Type 0 where
  pub plain : IsPlainProgram flow
  pub parameters : flow.parameters.items ≡ []
  pub calls : (o : Operation) → IsDoneIn flow o → IsPlainOperation o
  pub steps : HasTypedAccesses flow u

abbrev pub LoopedUnitsHaveTypedPrograms : Type 0
LoopedUnitsHaveTypedPrograms = (u : UnitView) (limits : Limits) (flow : Flow) → IsProgramOf u limits flow → AreLaidOut flow.model (structs_of flow) → is_looped_unit u ≡ true → is_typed_unit u ≡ true → IsLoopedFlow flow u

-- Runs of programs whose pointers have types.
use Rattle.c_layout.specs.CheckedUnits.{UnitView}
use Rattle.cfg.specs.declared.programs.Flow.{Flow}
use Rattle.run_exact.specs.Runs.SingleRuns.{HasTypedAccesses}
use Rattle.typed_programs.specs.Types.TypedPrograms.{Typing, IsTypedProgram}

-- in the run of a typed program under no numbers of the outside each access is of the type of what lies there
abbrev pub TypedProgramsHaveTypedAccesses : Type 0
TypedProgramsHaveTypedAccesses = (flow : Flow) (u : UnitView) (typing : Typing) → IsTypedProgram flow u typing → HasTypedAccesses flow u

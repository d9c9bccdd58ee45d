-- The laws of rows that tell the state: instructions on memory.
use Rattle.std.specs.Prelude.{◌≡◌, ℤ, true, List}
use Rattle.cc_base.specs.Lattices.{LatticeOf}
use Rattle.cc_base.specs.IntegerDomains.{IntegersOf}
use Rattle.cfg.specs.WellFormed.{names_of, fits_operation}
use Rattle.cfg.specs.declared.machine_instructions.Operation.{Operation}
use Rattle.cfg.specs.declared.machine_instructions.Operation.TheVariants as op
use Rattle.cfg.specs.declared.programs.Flow.{Flow}
use Rattle.value_domain.specs.declared.values.row_cells.Cell.{Cell}
use Rattle.lower_templates.specs.Worklist.Acts.{act}
use Rattle.lower_templates.specs.Views.ProgramViews.{flow_view}
use Rattle.semantics.specs.CfgMachine.FlowStates.{ProgramState}
use Rattle.semantics.specs.CfgMachine.FlowSteps.{act_step}
use Rattle.store_sound.specs.Concretization.Coverage.{state_of}
use Rattle.store_sound.specs.Concretization.ValueMeaning.{Naming}
use Rattle.store_sound.specs.Programs.Premises.{HasPremises}
use Rattle.transfer_sound.specs.Values.OperandTypes.{HasOperands}
use Rattle.transfer_sound.specs.Values.SoundSteps.{IsReached}
use Rattle.transfer_exact.specs.Values.SingleRows.{IsPlainProgram, ExactState}
use Rattle.transfer_exact.specs.Values.SingleSteps.{IsDefined, StepIsExact}
use Rattle.transfer_exact.specs.Accesses.TypedAccesses.{HasObjects, IsTypedLoad, IsTypedStore}

abbrev pub IsEntered : Operation → ProgramState → Type 0
IsEntered (op.Enter base) s = Unit {0}
IsEntered _ s = ⊥

abbrev pub IsLeft : Operation → ProgramState → Type 0
IsLeft (op.Leave base) s = Unit {0}
IsLeft _ s = ⊥

abbrev pub IsForgotten : Operation → ProgramState → Type 0
IsForgotten (op.Forget base) s = Unit {0}
IsForgotten _ s = ⊥

abbrev pub IsCleared : Operation → ProgramState → Type 0
IsCleared (op.Clear base) s = Unit {0}
IsCleared _ s = ⊥

module _ {I : Type 0} (l : LatticeOf I) (n : IntegersOf I) (gamma : I → ℤ → Type 0) (flow : Flow) where
  -- instructions that fit a plain program, on a row that stands for the state and tells it, where the step is defined
  abbrev pub AreExactAt : (Operation → ProgramState → Type 0) → Type 0
  AreExactAt Is = HasPremises flow → HasObjects flow → IsPlainProgram flow
      → (naming : Naming) (row : List (Cell I)) (s : ProgramState) (o : Operation) → Is o s → fits_operation (names_of flow) o ≡ true → HasOperands o s.temps → IsReached l n gamma flow naming row s → ExactState l n flow row (state_of s) → IsDefined (act_step (flow_view flow) (act o) s) → StepIsExact l n flow row o s

  abbrev pub LoadsAreExact : Type 0
  LoadsAreExact = AreExactAt (IsTypedLoad flow)

  abbrev pub StoresAreExact : Type 0
  StoresAreExact = AreExactAt (IsTypedStore flow)

  abbrev pub EntersAreExact : Type 0
  EntersAreExact = AreExactAt IsEntered

  abbrev pub LeavesAreExact : Type 0
  LeavesAreExact = AreExactAt IsLeft

  abbrev pub ForgetsAreExact : Type 0
  ForgetsAreExact = AreExactAt IsForgotten

  abbrev pub ClearsAreExact : Type 0
  ClearsAreExact = AreExactAt IsCleared

-- The laws of rows that tell the state: instructions without memory, and calls that give a number.
use Rattle.std.specs.Prelude.{◌≡◌, ℕ, ℤ, true, Option, Some, List}
use Rattle.cc_base.specs.Lattices.{LatticeOf}
use Rattle.cc_base.specs.IntegerDomains.{IntegersOf}
use Rattle.cc_base.specs.declared.int_types.IntType.{IntType}
use Rattle.cc_base.specs.declared.integer_operators.IntOp.{IntOp}
use Rattle.c_layout.specs.declared.library_functions.LibFn.{LibFn}
use Rattle.c_layout.specs.declared.library_functions.LibFn.TheVariants as f
use Rattle.cfg.specs.WellFormed.{names_of, fits_operation}
use Rattle.cfg.specs.declared.machine_instructions.Amount.{Amount}
use Rattle.cfg.specs.declared.machine_instructions.Amount.TheVariants as amount
use Rattle.cfg.specs.declared.machine_instructions.Operation.{Operation}
use Rattle.cfg.specs.declared.machine_instructions.Operation.TheVariants as op
use Rattle.cfg.specs.declared.programs.Flow.{Flow}
use Rattle.value_domain.specs.declared.values.row_cells.Cell.{Cell}
use Rattle.transfer_instructions.specs.Instructions.OperationGroups.{is_on_values, is_on_pointers}
use Rattle.memory_model.specs.Memory.Labels.{Labels}
use Rattle.memory_model.specs.Memory.Scalars.{Scalar, integer}
use Rattle.lower_templates.specs.Worklist.Acts.{act}
use Rattle.lower_templates.specs.Views.ProgramViews.{flow_view}
use Rattle.semantics.specs.CfgMachine.FlowStates.{ProgramState}
use Rattle.semantics.specs.CfgMachine.FlowSteps.{act_step}
use Rattle.store_sound.specs.Concretization.Coverage.{state_of}
use Rattle.store_sound.specs.Concretization.ValueMeaning.{Naming}
use Rattle.store_sound.specs.Programs.Premises.{HasPremises}
use Rattle.transfer_sound.specs.Values.OperandTypes.{HasOperands}
use Rattle.transfer_sound.specs.Values.SoundSteps.{IsReached}
use Rattle.transfer_exact.specs.Values.ExactNumbers.{FitsRight}
use Rattle.transfer_exact.specs.Values.SingleRows.{IsPlainProgram, ExactState}
use Rattle.transfer_exact.specs.Values.SingleSteps.{IsDefined, StepIsExact}

-- ---- what is supposed of right operands

abbrev pub FitsRightScalar : IntOp → IntType → Option Scalar → Type 0
FitsRightScalar o k v = (z : ℤ) (labels : Labels) → v ≡ Some (integer z labels) → FitsRight o k z

abbrev pub FitsAmount : IntOp → IntType → Amount → (ℕ → Option Scalar) → Type 0
FitsAmount o k (amount.Temp t) temps = FitsRightScalar o k (temps t)
FitsAmount o k amount.One temps = Unit {0}

-- the right operand of an operator is of the operator's type, but the count of a shift
abbrev pub HasRight : Operation → (ℕ → Option Scalar) → Type 0
HasRight (op.Binary to o left right k) temps = FitsAmount o k right temps
HasRight _ temps = Unit {0}

-- ---- calls

-- functions that end the program, or give a number for one without the outside
abbrev pub IsPlainFunction : LibFn → Type 0
IsPlainFunction f.Putchar = Unit {0}
IsPlainFunction f.Exit = Unit {0}
IsPlainFunction f.Abort = Unit {0}
IsPlainFunction f.Isalpha = Unit {0}
IsPlainFunction f.Isdigit = Unit {0}
IsPlainFunction f.Isspace = Unit {0}
IsPlainFunction f.Isupper = Unit {0}
IsPlainFunction f.Islower = Unit {0}
IsPlainFunction f.Isalnum = Unit {0}
IsPlainFunction f.Toupper = Unit {0}
IsPlainFunction f.Tolower = Unit {0}
IsPlainFunction _ = ⊥

abbrev pub IsPlainCall : Operation → Type 0
IsPlainCall (op.Library to name arguments newest size) = IsPlainFunction name
IsPlainCall _ = ⊥

module _ {I : Type 0} (l : LatticeOf I) (n : IntegersOf I) (gamma : I → ℤ → Type 0) (flow : Flow) where
  -- instructions that fit the program, on a row that stands for the state and tells it, where the step is defined
  abbrev pub AreExact : (Operation → Type 0) → Type 0
  AreExact Is = (naming : Naming) (row : List (Cell I)) (s : ProgramState) (o : Operation) → Is o → fits_operation (names_of flow) o ≡ true → HasOperands o s.temps → HasRight o s.temps → IsReached l n gamma flow naming row s → ExactState l n flow row (state_of s) → IsDefined (act_step (flow_view flow) (act o) s) → StepIsExact l n flow row o s

  abbrev pub ValueStepsAreExact : Type 0
  ValueStepsAreExact = HasPremises flow → AreExact (λ o. is_on_values o ≡ true)

  abbrev pub PointerStepsAreExact : Type 0
  PointerStepsAreExact = HasPremises flow → IsPlainProgram flow → AreExact (λ o. is_on_pointers o ≡ true)

  abbrev pub CallsAreExact : Type 0
  CallsAreExact = HasPremises flow → AreExact IsPlainCall

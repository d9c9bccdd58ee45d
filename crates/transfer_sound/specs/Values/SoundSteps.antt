-- When the analysis's step on an instruction is sound: the row behind stands for the state behind, and each rule that the
-- step violates is admitted.
use Rattle.std.specs.Prelude.{◌≡◌, ◌≤ℤ◌, ℕ, ℤ, pos, true, List, [], length, Option, Some}
use Rattle.std.specs.List.{Contains}
use Rattle.cc_base.specs.Lattices.{LatticeOf}
use Rattle.cc_base.specs.IntegerDomains.{IntegersOf}
use Rattle.cc_base.specs.IntegerTypes.{greatest_of}
use Rattle.cc_base.specs.declared.diagnostics.Rule.{Rule}
use Rattle.c_layout.specs.declared.data_model.Model.{Model}
use Rattle.c_layout.specs.declared.leaf_lists.Class.TheVariants.{Pointer}
use Rattle.cfg.specs.WellFormed.{names_of, fits_operation}
use Rattle.cfg.specs.declared.machine_instructions.Operation.{Operation}
use Rattle.cfg.specs.declared.programs.Flow.{Flow}
use Rattle.value_domain.specs.declared.values.row_cells.Cell.{Cell}
use Rattle.store_cells.specs.ScalarTypes.{kind_of}
use Rattle.transfer_checks.specs.declared.violation_sets.Violations.{Violations}
use Rattle.transfer_checks.specs.ViolationSets.{violates}
use Rattle.transfer_system.specs.OperationGroups.{is_on_values, is_on_pointers}
use Rattle.transfer_system.specs.Steps.{operate}
use Rattle.transfer_system.specs.StepViolations.{operation_violations}
use Rattle.memory_model.specs.Memory.Instances.{Memory, bytes_at}
use Rattle.memory_model.specs.Effects.Worlds.{World, Reply, goes, world_of}
use Rattle.lower_templates.specs.Worklist.Acts.{act}
use Rattle.lower_templates.specs.Views.ProgramViews.{flow_view}
use Rattle.semantics.specs.CfgMachine.FlowStates.{ProgramState}
use Rattle.semantics.specs.CfgMachine.FlowSteps.{act_step}
use Rattle.store_sound.specs.Concretization.ValueMeaning.{Naming}
use Rattle.store_sound.specs.Concretization.RowMeaning.{InGamma}
use Rattle.store_sound.specs.Concretization.Coverage.{state_of}
use Rattle.store_sound.specs.Programs.Premises.{HasPremises}
use Rattle.transfer_sound.specs.Values.OperandTypes.{HasOperands}

-- no instance is longer than a difference of pointers can tell
abbrev pub AreShort : Model → Memory → Type 0
AreShort m memory = (i : ℕ) → pos (length (bytes_at memory i)) ≤ℤ greatest_of (kind_of m Pointer true)

module _ {I : Type 0} (l : LatticeOf I) (n : IntegersOf I) (gamma : I → ℤ → Type 0) (flow : Flow) where
  -- a step begins: the row before it stands for the state, and it has violated nothing yet
  pub record IsReached (naming : Naming) (row : List (Cell I)) (s : ProgramState) : Type 0 where
    pub long : length row ≡ flow.width
    pub stands_for : InGamma l n gamma flow naming row (state_of s)
    pub short : AreShort flow.model s.world.memory
    pub begun : s.world.violated ≡ []

  -- there is a row behind, and by some names it stands for the state there
  pub record InGammaAfter (after : Option (List (Cell I))) (s : ProgramState) : Type 0 where
    pub row : List (Cell I)
    pub is : after ≡ Some row
    pub long : length row ≡ flow.width
    pub naming : Naming
    pub stands_for : InGamma l n gamma flow naming row (state_of s)
    pub short : AreShort flow.model s.world.memory

  -- the row behind stands for the state where the run goes on, and what is violated is admitted
  pub record IsStoodFor (after : Option (List (Cell I))) (admitted : Violations) (reply : Reply ProgramState) : Type 0 where
    pub goes_on : (s : ProgramState) (w : World) → reply ≡ goes s w → InGammaAfter after (record s { world = w })
    pub admits : (r : Rule) → Contains (world_of reply).violated r → violates admitted r ≡ true

  abbrev pub StepIsSound : List (Cell I) → Operation → ProgramState → Type 0
  StepIsSound row o s = IsStoodFor (operate l n flow row o) (operation_violations l n flow row o) (act_step (flow_view flow) (act o) s)

  -- instructions that fit a program with the premises, where the operands are such as they suppose
  abbrev pub AreSound : (Operation → Type 0) → Type 0
  AreSound Is = (naming : Naming) (row : List (Cell I)) (s : ProgramState) (o : Operation) → Is o → fits_operation (names_of flow) o ≡ true → HasOperands o s.temps → IsReached naming row s → StepIsSound row o s

  abbrev pub ValueStepsAreSound : Type 0
  ValueStepsAreSound = HasPremises flow → AreSound (λ o. is_on_values o ≡ true)

  abbrev pub PointerStepsAreSound : Type 0
  PointerStepsAreSound = HasPremises flow → AreSound (λ o. is_on_pointers o ≡ true)

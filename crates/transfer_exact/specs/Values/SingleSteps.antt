-- When the analysis's step on an instruction is exact: where the run goes on, the row behind tells the state behind; where it
-- stops there is no row; and each rule that the step admits is violated.
use Rattle.std.specs.Prelude.{◌≡◌, true, List, Option, Some, None}
use Rattle.std.specs.List.{Contains}
use Rattle.cc_base.specs.Lattices.{LatticeOf}
use Rattle.cc_base.specs.IntegerDomains.{IntegersOf}
use Rattle.cc_base.specs.declared.diagnostics.Rule.{Rule}
use Rattle.cfg.specs.declared.machine_instructions.Operation.{Operation}
use Rattle.cfg.specs.declared.programs.Flow.{Flow}
use Rattle.value_domain.specs.declared.values.row_cells.Cell.{Cell}
use Rattle.transfer_checks.specs.declared.violation_sets.Violations.{Violations}
use Rattle.transfer_checks.specs.ViolationSets.{violates}
use Rattle.transfer_instructions.specs.Instructions.Steps.{operate}
use Rattle.transfer_instructions.specs.Instructions.StepViolations.{operation_violations}
use Rattle.memory_model.specs.Effects.Worlds.{World, Why, Stuck, Reply, goes, stops, world_of}
use Rattle.lower_templates.specs.Worklist.Acts.{act}
use Rattle.lower_templates.specs.Views.ProgramViews.{flow_view}
use Rattle.semantics.specs.CfgMachine.FlowStates.{ProgramState}
use Rattle.semantics.specs.CfgMachine.FlowSteps.{act_step}
use Rattle.store_sound.specs.Concretization.Coverage.{state_of}
use Rattle.transfer_exact.specs.Values.SingleRows.{ExactState}

-- a step is defined
abbrev pub IsDefined : {A : Type 0} → Reply A → Type 0
IsDefined {A} reply = (w : World) → reply ≡ stops Stuck w → ⊥

module _ {I : Type 0} (l : LatticeOf I) (n : IntegersOf I) (flow : Flow) where
  -- the row behind tells the state behind
  pub record ExactAfter (after : Option (List (Cell I))) (s : ProgramState) : Type 0 where
    pub row : List (Cell I)
    pub is : after ≡ Some row
    pub tells : ExactState l n flow row (state_of s)

  pub record IsExact (after : Option (List (Cell I))) (admitted : Violations) (reply : Reply ProgramState) : Type 0 where
    pub goes_on : (s : ProgramState) (w : World) → reply ≡ goes s w → ExactAfter after (record s { world = w })
    pub ends : (why : Why) (w : World) → reply ≡ stops why w → after ≡ None
    pub violated : (r : Rule) → violates admitted r ≡ true → Contains (world_of reply).violated r

  abbrev pub StepIsExact : List (Cell I) → Operation → ProgramState → Type 0
  StepIsExact row o s = IsExact (operate l n flow row o) (operation_violations l n flow row o) (act_step (flow_view flow) (act o) s)

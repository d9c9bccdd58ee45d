-- Instructions on pointers without memory are told.
use Rattle.std.proofs.Common.{◌≡◌, true, List, sym}
use Rattle.std.specs.Prelude.{ℤ}
use Rattle.std.proofs.lemmas.Bool.{true≢false}
use Rattle.cc_base.specs.Lattices.{LatticeOf}
use Rattle.cc_base.specs.IntegerDomains.{IntegersOf, BoundLaws}
use Rattle.cfg.specs.WellFormed.{names_of, fits_operation}
use Rattle.cfg.specs.declared.machine_instructions.Operation.{Operation}
use Rattle.cfg.specs.declared.machine_instructions.Operation.TheVariants as op
use Rattle.cfg.specs.declared.programs.Flow.{Flow}
use Rattle.value_domain.specs.declared.values.row_cells.Cell.{Cell}
use Rattle.transfer_instructions.specs.Instructions.OperationGroups.{is_on_pointers}
use Rattle.lower_templates.specs.Worklist.Acts.{act}
use Rattle.lower_templates.specs.Views.ProgramViews.{flow_view}
use Rattle.semantics.specs.CfgMachine.FlowStates.{ProgramState}
use Rattle.semantics.specs.CfgMachine.FlowSteps.{act_step}
use Rattle.store_sound.specs.Concretization.ValueMeaning.{Naming}
use Rattle.store_sound.specs.Concretization.Coverage.{state_of}
use Rattle.store_sound.specs.Programs.Premises.{HasPremises}
use Rattle.transfer_sound.specs.Values.SoundSteps.{IsReached}
use Rattle.transfer_exact.specs.Values.ExactNumbers.{ExactLaws}
use Rattle.transfer_exact.specs.Values.SingleRows.{ExactState, IsPlainProgram}
use Rattle.transfer_exact.specs.Values.SingleSteps.{IsDefined, StepIsExact}
use Rattle.transfer_exact.proofs.pointers.Addresses.{address_told}
use Rattle.transfer_exact.proofs.pointers.Comparisons.{difference_told, relation_told}
use Rattle.transfer_exact.proofs.pointers.Moves.{shift_told}
use Rattle.transfer_exact.proofs.pointers.Parts.{narrow_told}

module _ {I : Type 0} {l : LatticeOf I} {n : IntegersOf I} {gamma : I → ℤ → Type 0} (q : BoundLaws l n gamma) (ex : ExactLaws n) (flow : Flow) (p : HasPremises flow) (plain : IsPlainProgram flow) (naming : Naming) (row : List (Cell I)) (s : ProgramState) (r : IsReached l n gamma flow naming row s) (t : ExactState l n flow row (state_of s)) where
  pub pointer_step_told : (o : Operation) → is_on_pointers o ≡ true → fits_operation (names_of flow) o ≡ true → IsDefined (act_step (flow_view flow) (act o) s) → StepIsExact l n flow row o s
  pointer_step_told (op.Address to base offset) is fits d = address_told q flow p naming row s r t to base offset fits d
  pointer_step_told (op.Narrow to from offset size) is fits d = narrow_told q flow p plain naming row s r t to from offset size fits d
  pointer_step_told (op.Shift to from by scale back) is fits d = shift_told q flow p naming row s r t to from by scale back fits d
  pointer_step_told (op.Difference to left right size) is fits d = difference_told q ex flow p plain naming row s r t to left right size fits d
  pointer_step_told (op.ComparePointers to rel left right) is fits d = relation_told q ex flow p plain naming row s r t to rel left right fits d
  pointer_step_told o is fits d = absurd (true≢false (sym is))

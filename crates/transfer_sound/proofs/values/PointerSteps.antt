-- All instructions on pointers.
use Rattle.std.proofs.Common.{◌≡◌, true, List, sym}
use Rattle.std.specs.Prelude.{ℤ}
use Rattle.std.proofs.lemmas.Bool.{true≢false}
use Rattle.cc_base.specs.Lattices.{LatticeOf, OrderLaws}
use Rattle.cc_base.specs.IntegerDomains.{IntegersOf, BoundLaws}
use Rattle.cc_base.specs.IntegerLaws.{SoundLaws}
use Rattle.cfg.specs.WellFormed.{names_of, fits_operation}
use Rattle.cfg.specs.declared.machine_instructions.Operation.{Operation}
use Rattle.cfg.specs.declared.machine_instructions.Operation.TheVariants as op
use Rattle.cfg.specs.declared.programs.Flow.{Flow}
use Rattle.value_domain.specs.declared.values.row_cells.Cell.{Cell}
use Rattle.transfer_system.specs.OperationGroups.{is_on_pointers}
use Rattle.semantics.specs.CfgMachine.FlowStates.{ProgramState}
use Rattle.store_sound.specs.Concretization.ValueMeaning.{Naming}
use Rattle.store_sound.specs.Programs.Premises.{HasPremises}
use Rattle.transfer_sound.specs.Values.OperandTypes.{HasOperands}
use Rattle.transfer_sound.specs.Values.SoundSteps.{IsReached, StepIsSound}
use Rattle.transfer_sound.proofs.values.ComparisonSteps.{difference_sound, relation_sound}
use Rattle.transfer_sound.proofs.values.MoveSteps.{shift_sound}
use Rattle.transfer_sound.proofs.values.PartSteps.{address_sound, narrow_sound}

module _ {I : Type 0} {l : LatticeOf I} {n : IntegersOf I} {gamma : I → ℤ → Type 0} (o : OrderLaws l) (q : BoundLaws l n gamma) (c : SoundLaws l n gamma) (flow : Flow) (p : HasPremises flow) (naming : Naming) (row : List (Cell I)) (s : ProgramState) (r : IsReached l n gamma flow naming row s) where
  pub pointer_step_sound : (i : Operation) → is_on_pointers i ≡ true → fits_operation (names_of flow) i ≡ true → HasOperands i s.temps → StepIsSound l n gamma flow row i s
  pointer_step_sound (op.Address to base offset) is fits typed = address_sound o q flow p naming row s r to base offset fits
  pointer_step_sound (op.Narrow to from offset size) is fits typed = narrow_sound o q flow p naming row s r to from offset size fits
  pointer_step_sound (op.Shift to from by scale back) is fits typed = shift_sound o q flow p naming row s r to from by scale back fits
  pointer_step_sound (op.Difference to left right size) is fits typed = difference_sound o q c flow p naming row s r to left right size fits
  pointer_step_sound (op.ComparePointers to rel left right) is fits typed = relation_sound o q c flow p naming row s r to rel left right fits
  pointer_step_sound i is fits typed = absurd (true≢false (sym is))

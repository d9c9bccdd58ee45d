-- Loads and stores, whatever they are to.
use Rattle.std.proofs.Common.{◌≡◌, true, List}
use Rattle.std.specs.Prelude.{ℤ}
use Rattle.cc_base.specs.Lattices.{LatticeOf, OrderLaws}
use Rattle.cc_base.specs.IntegerDomains.{IntegersOf, BoundLaws, RangeLaws}
use Rattle.cc_base.specs.IntegerLaws.{SoundLaws}
use Rattle.cfg.specs.WellFormed.{names_of, fits_operation}
use Rattle.cfg.specs.declared.machine_instructions.Operation.{Operation}
use Rattle.cfg.specs.declared.machine_instructions.Operation.TheVariants as op
use Rattle.cfg.specs.declared.programs.Flow.{Flow}
use Rattle.value_domain.specs.declared.values.row_cells.Cell.{Cell}
use Rattle.semantics.specs.CfgMachine.FlowStates.{ProgramState}
use Rattle.store_sound.specs.Concretization.ValueMeaning.{Naming}
use Rattle.store_sound.specs.Programs.Premises.{HasPremises}
use Rattle.transfer_sound.specs.Values.SoundSteps.{IsReached, StepIsSound}
use Rattle.transfer_sound.specs.Memory.MemorySteps.{IsLoad, IsStore}
use Rattle.transfer_sound.proofs.memory.LoadSteps.{load_sound}
use Rattle.transfer_sound.proofs.memory.StoreSteps.{store_sound}

module _ {I : Type 0} {l : LatticeOf I} {n : IntegersOf I} {gamma : I → ℤ → Type 0} (o : OrderLaws l) (q : BoundLaws l n gamma) (c : SoundLaws l n gamma) (ranges : RangeLaws l n) (flow : Flow) (p : HasPremises flow) (naming : Naming) (row : List (Cell I)) (s : ProgramState) (r : IsReached l n gamma flow naming row s) where
  pub load_step_sound : (i : Operation) → IsLoad i → fits_operation (names_of flow) i ≡ true → StepIsSound l n gamma flow row i s
  load_step_sound (op.Load to from kind) is fits = load_sound o q c flow p naming row s r to from kind fits
  load_step_sound i is fits = absurd is

  pub store_step_sound : (i : Operation) → IsStore i → fits_operation (names_of flow) i ≡ true → StepIsSound l n gamma flow row i s
  store_step_sound (op.Store to from kind kept) is fits = store_sound o q c ranges flow p naming row s r to from kind kept fits
  store_step_sound i is fits = absurd is

-- The laws on single instructions, put together: each instruction of such a program that goes on in its block is told.
use Rattle.std.specs.Prelude.{◌≡◌, ℤ, true, List}
use Rattle.std.proofs.Common.{refl, inl, inr, ◌⊎◌}
use Rattle.cc_base.specs.Lattices.{LatticeOf}
use Rattle.cc_base.specs.IntegerDomains.{IntegersOf}
use Rattle.cc_base.specs.declared.limit_table.Limits.{Limits}
use Rattle.cfg.specs.WellFormed.{names_of, On, leads, fits_operation}
use Rattle.cfg.specs.declared.machine_instructions.Operation.{Operation}
use Rattle.cfg.specs.declared.machine_instructions.Operation.TheVariants as op
use Rattle.cfg.specs.declared.programs.Flow.{Flow}
use Rattle.value_domain.specs.declared.values.row_cells.Cell.{Cell}
use Rattle.lower_templates.specs.Worklist.Acts.{act}
use Rattle.lower_templates.specs.Views.ProgramViews.{flow_view}
use Rattle.semantics.specs.CfgMachine.FlowStates.{ProgramState}
use Rattle.semantics.specs.CfgMachine.FlowSteps.{begun, act_step}
use Rattle.store_sound.specs.Concretization.Coverage.{state_of}
use Rattle.store_sound.specs.Concretization.ValueMeaning.{Naming}
use Rattle.store_sound.specs.Programs.Premises.{HasPremises}
use Rattle.transfer_sound.specs.Values.OperandTypes.{HasOperands}
use Rattle.transfer_sound.specs.Values.SoundSteps.{IsReached}
use Rattle.struct_copies_sound.specs.Structs.StructTables.{HasStructs}
use Rattle.transfer_sound.specs.Induction.SoundEnds.{IsDoneIn}
use Rattle.analysis_sound.specs.Programs.OpenSteps.{SpellsOverCharacters}
use Rattle.transfer_exact.specs.Values.SingleLaws.{HasRight}
use Rattle.transfer_exact.specs.Values.SingleRows.{IsPlainProgram, ExactState}
use Rattle.transfer_exact.specs.Values.SingleSteps.{IsDefined, StepIsExact}
use Rattle.transfer_exact.specs.Accesses.TypedAccesses.{HasObjects}
use Rattle.transfer_exact.specs.Edges.WayLaws.{IsWay}
use Rattle.run_exact.specs.Runs.SingleRuns.{IsPlainOperation, IsTypedStep, SingleLaws}

module _ {I : Type 0} (l : LatticeOf I) (n : IntegersOf I) (gamma : I → ℤ → Type 0) (flow : Flow) (limits : Limits) (laws : SingleLaws l n gamma flow limits) (p : HasPremises flow) (objects : HasObjects flow) (structs : HasStructs flow) (texts : SpellsOverCharacters flow) (plain : IsPlainProgram flow) (naming : Naming) (row : List (Cell I)) (s : ProgramState) (r : IsReached l n gamma flow naming row (begun s)) (t : ExactState l n flow row (state_of s)) where
  abbrev IsExactHere : Operation → Type 0
  IsExactHere o = leads o ≡ On → IsDoneIn flow o → IsPlainOperation o → IsTypedStep flow o s → fits_operation (names_of flow) o ≡ true → HasOperands o s.temps → HasRight o s.temps → IsDefined (act_step (flow_view flow) (act o) (begun s)) → StepIsExact l n flow row o (begun s)

  pub step_told : (o : Operation) → IsExactHere o
  step_told (op.Constant to number kind) on g c is f a b d = laws.values p naming row (begun s) (op.Constant to number kind) refl f a b r t d
  step_told (op.Binary to operator left right kind) on g c is f a b d = laws.values p naming row (begun s) (op.Binary to operator left right kind) refl f a b r t d
  step_told (op.Unary to operator operand kind) on g c is f a b d = laws.values p naming row (begun s) (op.Unary to operator operand kind) refl f a b r t d
  step_told (op.Compare to rel left right) on g c is f a b d = laws.values p naming row (begun s) (op.Compare to rel left right) refl f a b r t d
  step_told (op.Not to operand kind) on g c is f a b d = laws.values p naming row (begun s) (op.Not to operand kind) refl f a b r t d
  step_told (op.Convert to operand from kind) on g c is f a b d = laws.values p naming row (begun s) (op.Convert to operand from kind) refl f a b r t d
  step_told (op.Address to base offset) on g c is f a b d = laws.pointers p plain naming row (begun s) (op.Address to base offset) refl f a b r t d
  step_told (op.Narrow to pointer offset size) on g c is f a b d = laws.pointers p plain naming row (begun s) (op.Narrow to pointer offset size) refl f a b r t d
  step_told (op.Shift to pointer amount scale backwards) on g c is f a b d = laws.pointers p plain naming row (begun s) (op.Shift to pointer amount scale backwards) refl f a b r t d
  step_told (op.Difference to left right size) on g c is f a b d = laws.pointers p plain naming row (begun s) (op.Difference to left right size) refl f a b r t d
  step_told (op.ComparePointers to rel left right) on g c is f a b d = laws.pointers p plain naming row (begun s) (op.ComparePointers to rel left right) refl f a b r t d
  step_told (op.Load to from kind) on g c is f a b d = laws.loads p objects plain naming row (begun s) (op.Load to from kind) is f a r t d
  step_told (op.Store to from kind kept) on g c is f a b d = laws.stores p objects plain naming row (begun s) (op.Store to from kind kept) is f a r t d
  step_told (op.Copy to from index) on g c is f a b d = laws.copies structs p objects plain naming row (begun s) (op.Copy to from index) is f a r t d
  step_told (op.Library to name arguments newest size) on g c is f a b d = laws.calls p naming row (begun s) (op.Library to name arguments newest size) c f a b r t d
  step_told (op.Enter base) on g c is f a b d = laws.enters p objects plain naming row (begun s) (op.Enter base) tt f a r t d
  step_told (op.Leave base) on g c is f a b d = laws.leaves p objects plain naming row (begun s) (op.Leave base) tt f a r t d
  step_told (op.Forget base) on g c is f a b d = laws.forgets p objects plain naming row (begun s) (op.Forget base) tt f a r t d
  step_told (op.Clear base) on g c is f a b d = laws.clears p objects plain naming row (begun s) (op.Clear base) tt f a r t d
  step_told (op.Spell base offset room text) on g c is f a b d = laws.spells p objects plain naming row (begun s) (op.Spell base offset room text) (texts base offset room text g) f a r t d
  step_told op.Jump on g c is f a b d = cc
  step_told (op.Branch temp kind) on g c is f a b d = cc
  step_told (op.Switch temp kind) on g c is f a b d = cc
  step_told (op.ReadLine to text count stream) on g c is f a b d = cc
  step_told op.Stop on g c is f a b d = cc

-- an instruction of such a program that ends its block leads on, or stops the run
pub way_or_stop : (o : Operation) → IsPlainOperation o → (leads o ≡ On → ⊥) → IsWay o ⊎ (o ≡ op.Stop)
way_or_stop op.Jump h off = inl tt
way_or_stop (op.Branch temp kind) h off = inl tt
way_or_stop (op.Switch temp kind) h off = inl tt
way_or_stop op.Stop h off = inr refl
way_or_stop (op.ReadLine to text count stream) h off = absurd h
way_or_stop (op.Constant to number kind) h off = absurd (off refl)
way_or_stop (op.Binary to operator left right kind) h off = absurd (off refl)
way_or_stop (op.Unary to operator operand kind) h off = absurd (off refl)
way_or_stop (op.Compare to rel left right) h off = absurd (off refl)
way_or_stop (op.Not to operand kind) h off = absurd (off refl)
way_or_stop (op.Convert to operand from kind) h off = absurd (off refl)
way_or_stop (op.Address to base offset) h off = absurd (off refl)
way_or_stop (op.Narrow to pointer offset size) h off = absurd (off refl)
way_or_stop (op.Shift to pointer amount scale backwards) h off = absurd (off refl)
way_or_stop (op.Difference to left right size) h off = absurd (off refl)
way_or_stop (op.ComparePointers to rel left right) h off = absurd (off refl)
way_or_stop (op.Load to from kind) h off = absurd (off refl)
way_or_stop (op.Store to from kind kept) h off = absurd (off refl)
way_or_stop (op.Copy to from index) h off = absurd (off refl)
way_or_stop (op.Library to name arguments newest size) h off = absurd (off refl)
way_or_stop (op.Enter base) h off = absurd (off refl)
way_or_stop (op.Leave base) h off = absurd (off refl)
way_or_stop (op.Forget base) h off = absurd (off refl)
way_or_stop (op.Clear base) h off = absurd (off refl)
way_or_stop (op.Spell base offset room text) h off = absurd (off refl)

-- The worked program is single: no edge enters a block from a later one, nothing is called, and no memory is accessed.
use Rattle.std.proofs.Common.{◌≡◌, ℕ, zero, suc, pos, false, List, [], ◌∷◌, Option, Some, None, slice_get, ap, subst, refl}
use Rattle.cc_base.specs.declared.integer_operators.IntOp.TheVariants.{Div}
use Rattle.cfg.specs.declared.machine_instructions.Amount.TheVariants as amount
use Rattle.cfg.specs.declared.machine_instructions.Instruction.{Instruction}
use Rattle.cfg.specs.declared.machine_instructions.Operation.{Operation}
use Rattle.cfg.specs.declared.machine_instructions.Operation.TheVariants as op
use Rattle.cfg.specs.declared.programs.Flow.{Flow}
use Rattle.semantics.specs.CfgMachine.FlowStates.{ProgramState}
use Rattle.transfer_system.specs.System.FlowMachines.{is_head_at}
use Rattle.diagnose.specs.Diagnostics.AdmittedRules.{instructions_of}
use Rattle.transfer_sound.specs.Induction.SoundEnds.{IsDoneIn}
use Rattle.typed_lowering.specs.SingleRuns.{IsPlainOperation, IsTypedStep, IsSingleProgram}
use Rattle.cli_examples.specs.Units.WorkedPlaces.{at}
use Rattle.cli_examples.specs.Units.WorkedTrees.{int, checked_unit}
use Rattle.cli_examples.proofs.analyses.WorkedProgram.{program}

none_there : {X : Type 0} (x : X) (n : ℕ) → slice_get [] n ≡ Some x → ⊥
none_there x n e = cc

some_inj : {X : Type 0} {x y : X} → Some x ≡ Some y → x ≡ y
some_inj {X} {x} {y} e = ap (λ (p : Option X). elim p [ None ↦ x | Some z ↦ z ]) e

module _ (some : Flow) where
  -- no call but of a plain function, and no access but of the kind of what lies there, in whatever state
  record IsPlainStep (i : Instruction) : Type 0 where
    plain : IsPlainOperation i.operation
    typed : (s : ProgramState) → IsTypedStep (program some) i.operation s

  abbrev ArePlainSteps : List Instruction → Type 0
  ArePlainSteps is = (n : ℕ) (i : Instruction) → slice_get is n ≡ Some i → IsPlainStep i

  no_steps : ArePlainSteps []
  no_steps n i there = absurd (none_there i n there)

  one_more : (x : Instruction) (is : List Instruction) → IsPlainStep x → ArePlainSteps is → ArePlainSteps (x ∷ is)
  one_more x is first rest zero i there = subst IsPlainStep (some_inj there) first
  one_more x is first rest (suc n) i there = rest n i there

  abbrev does : ℕ → Operation → Instruction
  does column o = record { place = at column; operation = o }

  are_plain : (block : ℕ) → ArePlainSteps (instructions_of (program some) block)
  are_plain zero =
      one_more (does 23 (op.Constant 0 (pos 1) int)) (does 25 (op.Constant 1 (pos 0) int) ∷ (does 24 (op.Binary 0 Div 0 (amount.Temp 1) int) ∷ (does 16 op.Stop ∷ []))) (record { plain = tt; typed = λ s. tt })
      (one_more (does 25 (op.Constant 1 (pos 0) int)) (does 24 (op.Binary 0 Div 0 (amount.Temp 1) int) ∷ (does 16 op.Stop ∷ [])) (record { plain = tt; typed = λ s. tt })
      (one_more (does 24 (op.Binary 0 Div 0 (amount.Temp 1) int)) (does 16 op.Stop ∷ []) (record { plain = tt; typed = λ s. tt }) (one_more (does 16 op.Stop) [] (record { plain = tt; typed = λ s. tt }) no_steps)))
  are_plain (suc zero) = one_more (does 5 op.Stop) [] (record { plain = tt; typed = λ s. tt }) no_steps
  are_plain (suc (suc zero)) = no_steps
  are_plain (suc (suc (suc block))) = no_steps

  plain_operation : (o : Operation) → IsDoneIn (program some) o → IsPlainOperation o
  plain_operation o done = subst IsPlainOperation done.does (are_plain done.block done.at done.instruction done.is).plain

  headless : (b : ℕ) → is_head_at (program some).blocks.items b ≡ false
  headless zero = refl
  headless (suc zero) = refl
  headless (suc (suc zero)) = refl
  headless (suc (suc (suc b))) = refl

  pub single : IsSingleProgram (program some) checked_unit
  single = record {
    plain = record { apart = λ b j base leaf there among. absurd (none_there base b there); no_heap = λ b base there. absurd (none_there base b there) };
    parameters = refl;
    calls = plain_operation;
    headless = headless;
    steps = λ count s found i runs there. (are_plain s.block s.at i there).typed s;
  }

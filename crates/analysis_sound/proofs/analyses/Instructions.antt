-- What all instructions of a program are, each is that it does.
use Rattle.std.proofs.Common.{◌≡◌, Bool, true, Option, Some, None, subst, refl}
use Rattle.std.specs.Prelude.{slice_get}
use Rattle.std.specs.List.{list_all}
use Rattle.cfg.specs.declared.basic_blocks.BasicBlock.{BasicBlock}
use Rattle.cfg.specs.declared.machine_instructions.Instruction.{Instruction}
use Rattle.cfg.specs.declared.machine_instructions.Operation.{Operation}
use Rattle.cfg.specs.declared.programs.Flow.{Flow}
use Rattle.diagnose.specs.Diagnostics.AdmittedRules.{instructions_in}
use Rattle.store_sound.proofs.programs.ShapedBases.{all_at}
use Rattle.transfer_sound.specs.Induction.SoundEnds.{IsDoneIn}

pub done_in : (flow : Flow) (p : Operation → Bool) → list_all (λ b. list_all (λ i. p i.operation) b.instructions.items) flow.blocks.items ≡ true → (o : Operation) → IsDoneIn flow o → p o ≡ true
done_in flow p h o d = subst (λ z. p z ≡ true) d.does (in_block (slice_get flow.blocks.items d.block) d.instruction (λ b e. all_at _ flow.blocks.items d.block b h e) d.is)
  where
    in_block : (block : Option BasicBlock) (i : Instruction) → ((b : BasicBlock) → block ≡ Some b → list_all (λ i. p i.operation) b.instructions.items ≡ true) → slice_get (instructions_in block) d.at ≡ Some i → p i.operation ≡ true
    in_block None i k e = cc
    in_block (Some b) i k e = all_at (λ i. p i.operation) b.instructions.items d.at i (k b refl) e

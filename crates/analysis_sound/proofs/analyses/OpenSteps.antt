-- Where each call of `fgets` ends its block, no instruction of the program is open.
use Rattle.std.proofs.Common.{◌≡◌, true, not, sym}
use Rattle.std.specs.Prelude.{ℤ}
use Rattle.std.proofs.lemmas.Bool.{true≢false}
use Rattle.cc_base.specs.Lattices.{LatticeOf}
use Rattle.cc_base.specs.IntegerDomains.{IntegersOf}
use Rattle.c_layout.specs.LibrarySignatures.{signature_of}
use Rattle.c_layout.specs.declared.library_functions.LibFn.{LibFn}
use Rattle.c_layout.specs.declared.library_functions.LibFn.TheVariants as f
use Rattle.cfg.specs.declared.machine_instructions.Operation.{Operation}
use Rattle.cfg.specs.declared.machine_instructions.Operation.TheVariants as op
use Rattle.cfg.specs.declared.programs.Flow.{Flow}
use Rattle.analysis_preconditions.specs.Objects.Sites.{reads_no_line, ends_with_lines}
use Rattle.transfer_sound.specs.Values.SoundSteps.{AreSound}
use Rattle.transfer_sound.specs.Induction.SoundEnds.{IsDoneIn}
use Rattle.analysis_sound.specs.Programs.OpenSteps.{IsOpenCall, IsOpenStep}
use Rattle.analysis_sound.proofs.analyses.Instructions.{done_in}

not_open : (name : LibFn) → not (signature_of name).reads_line ≡ true → IsOpenCall name → ⊥
not_open f.Fgets h c = true≢false (sym h)
not_open _ h c = absurd c

none_open : (flow : Flow) → ends_with_lines flow ≡ true → (o : Operation) → IsDoneIn flow o → IsOpenStep o → ⊥
none_open flow h (op.Library to name arguments site size) d c = not_open name (done_in flow reads_no_line h (op.Library to name arguments site size) d) c
none_open flow h _ d c = absurd c

module _ {I : Type 0} (l : LatticeOf I) (n : IntegersOf I) (gamma : I → ℤ → Type 0) (flow : Flow) where
  pub open_sound : ends_with_lines flow ≡ true → AreSound l n gamma flow (λ o. IsOpenStep o × IsDoneIn flow o)
  open_sound h naming row s o goes fits typed reached = absurd (none_open flow h o goes.1 goes.0)

-- When the analysis's step on `memcpy` or `memmove` is sound.
use Rattle.std.specs.Prelude.{ℤ}
use Rattle.cc_base.specs.Lattices.{LatticeOf}
use Rattle.cc_base.specs.IntegerDomains.{IntegersOf}
use Rattle.c_layout.specs.declared.library_functions.LibFn.{LibFn}
use Rattle.c_layout.specs.declared.library_functions.LibFn.TheVariants as f
use Rattle.cfg.specs.declared.machine_instructions.Operation.{Operation}
use Rattle.cfg.specs.declared.machine_instructions.Operation.TheVariants as op
use Rattle.cfg.specs.declared.programs.Flow.{Flow}
use Rattle.store_sound.specs.Programs.Premises.{HasPremises}
use Rattle.library_sound.specs.SoundSteps.{AreSound}

abbrev pub CopiesBytes : LibFn → Type 0
CopiesBytes f.Memcpy = Unit {0}
CopiesBytes f.Memmove = Unit {0}
CopiesBytes _ = ⊥

abbrev pub IsCopyCall : Operation → Type 0
IsCopyCall (op.Library to name arguments newest size) = CopiesBytes name
IsCopyCall _ = ⊥

module _ {I : Type 0} (l : LatticeOf I) (n : IntegersOf I) (gamma : I → ℤ → Type 0) (flow : Flow) where
  abbrev pub CopyCallsAreSound : Type 0
  CopyCallsAreSound = HasPremises flow → AreSound l n gamma flow IsCopyCall

-- When the analysis's step on calls that copy a text is sound.
use Rattle.std.specs.Prelude.{ℤ}
use Rattle.cc_base.specs.Lattices.{LatticeOf}
use Rattle.cc_base.specs.IntegerDomains.{IntegersOf}
use Rattle.c_layout.specs.declared.library_functions.LibFn.{LibFn}
use Rattle.c_layout.specs.declared.library_functions.LibFn.TheVariants as f
use Rattle.cfg.specs.declared.machine_instructions.Operation.{Operation}
use Rattle.cfg.specs.declared.machine_instructions.Operation.TheVariants as op
use Rattle.cfg.specs.declared.programs.Flow.{Flow}
use Rattle.store_sound.specs.Programs.Premises.{HasPremises}
use Rattle.transfer_sound.specs.Values.SoundSteps.{AreSound}

-- functions that copy a text
abbrev pub CopiesText : LibFn → Type 0
CopiesText f.Strcpy = Unit {0}
CopiesText _ = ⊥

abbrev pub IsTextCall : Operation → Type 0
IsTextCall (op.Library to name arguments newest size) = CopiesText name
IsTextCall _ = ⊥

module _ {I : Type 0} (l : LatticeOf I) (n : IntegersOf I) (gamma : I → ℤ → Type 0) (flow : Flow) where
  abbrev pub TextCallsAreSound : Type 0
  TextCallsAreSound = HasPremises flow → AreSound l n gamma flow IsTextCall

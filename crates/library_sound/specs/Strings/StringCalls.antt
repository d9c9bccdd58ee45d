-- When the analysis's steps on calls that read strings are sound.
use Rattle.std.specs.Prelude.{ℤ}
use Rattle.cc_base.specs.Lattices.{LatticeOf}
use Rattle.cc_base.specs.IntegerDomains.{IntegersOf}
use Rattle.c_layout.specs.declared.library_functions.LibFn.{LibFn}
use Rattle.c_layout.specs.declared.library_functions.LibFn.TheVariants as f
use Rattle.cfg.specs.declared.machine_instructions.Operation.{Operation}
use Rattle.cfg.specs.declared.machine_instructions.Operation.TheVariants as op
use Rattle.cfg.specs.declared.programs.Flow.{Flow}
use Rattle.store_sound.specs.Programs.Premises.{HasPremises}
use Rattle.transfer_sound.specs.Values.SoundSteps.{AreSound}

-- functions that read strings and give a number
abbrev pub ReadsStrings : LibFn → Type 0
ReadsStrings f.Strlen = Unit {0}
ReadsStrings f.Strcmp = Unit {0}
ReadsStrings f.Puts = Unit {0}
ReadsStrings _ = ⊥

abbrev pub IsStringCall : Operation → Type 0
IsStringCall (op.Library to name arguments newest size) = ReadsStrings name
IsStringCall _ = ⊥

module _ {I : Type 0} (l : LatticeOf I) (n : IntegersOf I) (gamma : I → ℤ → Type 0) (flow : Flow) where
  abbrev pub StringCallsAreSound : Type 0
  StringCallsAreSound = HasPremises flow → AreSound l n gamma flow IsStringCall

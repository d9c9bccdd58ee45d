-- When the analysis's step on calls that append a text is sound.
use Rattle.std.specs.Prelude.{ℤ}
use Rattle.cc_base.specs.Lattices.{LatticeOf}
use Rattle.cc_base.specs.IntegerDomains.{IntegersOf}
use Rattle.c_layout.specs.declared.library_functions.LibFn.{LibFn}
use Rattle.c_layout.specs.declared.library_functions.LibFn.TheVariants as f
use Rattle.cfg.specs.declared.machine_instructions.Operation.{Operation}
use Rattle.cfg.specs.declared.machine_instructions.Operation.TheVariants as op
use Rattle.cfg.specs.declared.programs.Flow.{Flow}
use Rattle.store_sound.specs.Programs.Premises.{HasPremises}
use Rattle.transfer_sound.specs.Values.SoundSteps.{AreSound}
use Rattle.library_sound.specs.Appends.ApartTexts.{HasApartTexts}

-- functions that append a text
abbrev pub AppendsText : LibFn → Type 0
AppendsText f.Strcat = Unit {0}
AppendsText _ = ⊥

abbrev pub IsAppendCall : Operation → Type 0
IsAppendCall (op.Library to name arguments newest size) = AppendsText name
IsAppendCall _ = ⊥

module _ {I : Type 0} (l : LatticeOf I) (n : IntegersOf I) (gamma : I → ℤ → Type 0) (flow : Flow) where
  abbrev pub AppendCallsAreSound : Type 0
  AppendCallsAreSound = HasPremises flow → HasApartTexts flow.bases.items → AreSound l n gamma flow IsAppendCall

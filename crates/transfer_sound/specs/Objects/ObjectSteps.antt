-- When the analysis's steps on objects as wholes are sound.
use Rattle.std.specs.Prelude.{ℤ}
use Rattle.cc_base.specs.Lattices.{LatticeOf}
use Rattle.cc_base.specs.IntegerDomains.{IntegersOf}
use Rattle.cfg.specs.declared.machine_instructions.Operation.{Operation}
use Rattle.cfg.specs.declared.machine_instructions.Operation.TheVariants as op
use Rattle.cfg.specs.declared.programs.Flow.{Flow}
use Rattle.store_sound.specs.Programs.Premises.{HasPremises}
use Rattle.transfer_sound.specs.Values.SoundSteps.{AreSound}

-- the contents of an object are forgotten
abbrev pub IsForget : Operation → Type 0
IsForget (op.Forget b) = Unit {0}
IsForget _ = ⊥

module _ {I : Type 0} (l : LatticeOf I) (n : IntegersOf I) (gamma : I → ℤ → Type 0) (flow : Flow) where
  abbrev pub ForgetStepsAreSound : Type 0
  ForgetStepsAreSound = HasPremises flow → AreSound l n gamma flow IsForget

-- When the analysis's steps on loads and stores are sound.
use Rattle.std.specs.Prelude.{ℤ}
use Rattle.cc_base.specs.Lattices.{LatticeOf}
use Rattle.cc_base.specs.IntegerDomains.{IntegersOf}
use Rattle.cfg.specs.declared.machine_instructions.Operation.{Operation}
use Rattle.cfg.specs.declared.machine_instructions.Operation.TheVariants as op
use Rattle.cfg.specs.declared.programs.Flow.{Flow}
use Rattle.store_sound.specs.Programs.Premises.{HasPremises}
use Rattle.transfer_sound.specs.Values.SoundSteps.{AreSound}

abbrev pub IsLoad : Operation → Type 0
IsLoad (op.Load to from kind) = Unit {0}
IsLoad _ = ⊥

abbrev pub IsStore : Operation → Type 0
IsStore (op.Store to from kind kept) = Unit {0}
IsStore _ = ⊥

module _ {I : Type 0} (l : LatticeOf I) (n : IntegersOf I) (gamma : I → ℤ → Type 0) (flow : Flow) where
  abbrev pub LoadStepsAreSound : Type 0
  LoadStepsAreSound = HasPremises flow → AreSound l n gamma flow IsLoad

  abbrev pub StoreStepsAreSound : Type 0
  StoreStepsAreSound = HasPremises flow → AreSound l n gamma flow IsStore

-- When the analysis's steps on calls of `free` are sound.
use Rattle.std.specs.Prelude.{ℤ}
use Rattle.cc_base.specs.Lattices.{LatticeOf}
use Rattle.cc_base.specs.IntegerDomains.{IntegersOf}
use Rattle.c_layout.specs.declared.library_functions.LibFn.{LibFn}
use Rattle.c_layout.specs.declared.library_functions.LibFn.TheVariants as f
use Rattle.cfg.specs.declared.machine_instructions.Operation.{Operation}
use Rattle.cfg.specs.declared.machine_instructions.Operation.TheVariants as op
use Rattle.cfg.specs.declared.programs.Flow.{Flow}
use Rattle.store_sound.specs.Programs.Premises.{HasPremises}
use Rattle.library_sound.specs.SoundSteps.{AreSound}

abbrev pub Frees : LibFn → Type 0
Frees f.Free = Unit {0}
Frees _ = ⊥

abbrev pub IsFreeCall : Operation → Type 0
IsFreeCall (op.Library to name arguments newest size) = Frees name
IsFreeCall _ = ⊥

module _ {I : Type 0} (l : LatticeOf I) (n : IntegersOf I) (gamma : I → ℤ → Type 0) (flow : Flow) where
  abbrev pub FreeCallsAreSound : Type 0
  FreeCallsAreSound = HasPremises flow → AreSound l n gamma flow IsFreeCall

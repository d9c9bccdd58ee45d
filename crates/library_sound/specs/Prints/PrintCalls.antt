-- When the analysis's steps on calls of `printf` are sound.
use Rattle.std.specs.Prelude.{ℤ}
use Rattle.cc_base.specs.Lattices.{LatticeOf}
use Rattle.cc_base.specs.IntegerDomains.{IntegersOf}
use Rattle.c_layout.specs.declared.library_functions.LibFn.{LibFn}
use Rattle.c_layout.specs.declared.library_functions.LibFn.TheVariants as f
use Rattle.cfg.specs.declared.machine_instructions.Operation.{Operation}
use Rattle.cfg.specs.declared.machine_instructions.Operation.TheVariants as op
use Rattle.cfg.specs.declared.programs.Flow.{Flow}
use Rattle.store_sound.specs.Programs.Premises.{HasPremises}
use Rattle.transfer_sound.specs.Values.SoundSteps.{AreSound}

abbrev pub Prints : LibFn → Type 0
Prints f.Printf = Unit {0}
Prints _ = ⊥

abbrev pub IsPrintCall : Operation → Type 0
IsPrintCall (op.Library to name arguments newest size) = Prints name
IsPrintCall _ = ⊥

module _ {I : Type 0} (l : LatticeOf I) (n : IntegersOf I) (gamma : I → ℤ → Type 0) (flow : Flow) where
  abbrev pub PrintCallsAreSound : Type 0
  PrintCallsAreSound = HasPremises flow → AreSound l n gamma flow IsPrintCall

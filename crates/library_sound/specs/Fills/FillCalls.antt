-- When the analysis's step on `memset` is sound.
use Rattle.std.specs.Prelude.{ℤ}
use Rattle.cc_base.specs.Lattices.{LatticeOf}
use Rattle.cc_base.specs.IntegerDomains.{IntegersOf}
use Rattle.c_layout.specs.declared.library_functions.LibFn.{LibFn}
use Rattle.c_layout.specs.declared.library_functions.LibFn.TheVariants as f
use Rattle.cfg.specs.declared.machine_instructions.Operation.{Operation}
use Rattle.cfg.specs.declared.machine_instructions.Operation.TheVariants as op
use Rattle.cfg.specs.declared.programs.Flow.{Flow}
use Rattle.store_sound.specs.Programs.Premises.{HasPremises}
use Rattle.transfer_sound.specs.Values.SoundSteps.{AreSound}

abbrev pub SetsBytes : LibFn → Type 0
SetsBytes f.Memset = Unit {0}
SetsBytes _ = ⊥

abbrev pub IsFillCall : Operation → Type 0
IsFillCall (op.Library to name arguments newest size) = SetsBytes name
IsFillCall _ = ⊥

module _ {I : Type 0} (l : LatticeOf I) (n : IntegersOf I) (gamma : I → ℤ → Type 0) (flow : Flow) where
  abbrev pub FillCallsAreSound : Type 0
  FillCallsAreSound = HasPremises flow → AreSound l n gamma flow IsFillCall

-- When the analysis's steps on calls that read and write no bytes are sound.
use Rattle.std.specs.Prelude.{ℤ}
use Rattle.cc_base.specs.Lattices.{LatticeOf}
use Rattle.cc_base.specs.IntegerDomains.{IntegersOf}
use Rattle.c_layout.specs.declared.library_functions.LibFn.{LibFn}
use Rattle.c_layout.specs.declared.library_functions.LibFn.TheVariants as f
use Rattle.cfg.specs.declared.machine_instructions.Operation.{Operation}
use Rattle.cfg.specs.declared.machine_instructions.Operation.TheVariants as op
use Rattle.cfg.specs.declared.programs.Flow.{Flow}
use Rattle.store_sound.specs.Programs.Premises.{HasPremises}
use Rattle.transfer_sound.specs.Values.SoundSteps.{AreSound}

-- functions that end the program, or give a number for one that is no pointer
abbrev pub GivesNumber : LibFn → Type 0
GivesNumber f.Getchar = Unit {0}
GivesNumber f.Putchar = Unit {0}
GivesNumber f.Exit = Unit {0}
GivesNumber f.Abort = Unit {0}
GivesNumber f.Isalpha = Unit {0}
GivesNumber f.Isdigit = Unit {0}
GivesNumber f.Isspace = Unit {0}
GivesNumber f.Isupper = Unit {0}
GivesNumber f.Islower = Unit {0}
GivesNumber f.Isalnum = Unit {0}
GivesNumber f.Toupper = Unit {0}
GivesNumber f.Tolower = Unit {0}
GivesNumber _ = ⊥

abbrev pub IsResultCall : Operation → Type 0
IsResultCall (op.Library to name arguments newest size) = GivesNumber name
IsResultCall _ = ⊥

module _ {I : Type 0} (l : LatticeOf I) (n : IntegersOf I) (gamma : I → ℤ → Type 0) (flow : Flow) where
  abbrev pub ResultCallsAreSound : Type 0
  ResultCallsAreSound = HasPremises flow → AreSound l n gamma flow IsResultCall

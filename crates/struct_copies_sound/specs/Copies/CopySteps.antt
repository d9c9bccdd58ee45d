-- When the analysis's step on a copy of a struct is sound.
use Rattle.std.specs.Prelude.{ℤ}
use Rattle.cc_base.specs.Lattices.{LatticeOf}
use Rattle.cc_base.specs.IntegerDomains.{IntegersOf}
use Rattle.cfg.specs.declared.machine_instructions.Operation.{Operation}
use Rattle.cfg.specs.declared.machine_instructions.Operation.TheVariants as op
use Rattle.cfg.specs.declared.programs.Flow.{Flow}
use Rattle.store_sound.specs.Programs.Premises.{HasPremises}
use Rattle.memory_calls_sound.specs.SoundSteps.{AreSound}
use Rattle.struct_copies_sound.specs.Structs.StructTables.{HasStructs}

abbrev pub IsCopy : Operation → Type 0
IsCopy (op.Copy to from index) = Unit {0}
IsCopy _ = ⊥

module _ {I : Type 0} (l : LatticeOf I) (n : IntegersOf I) (gamma : I → ℤ → Type 0) (flow : Flow) where
  abbrev pub CopiesAreSound : Type 0
  CopiesAreSound = HasPremises flow → HasStructs flow → AreSound l n gamma flow IsCopy

-- When the analysis is sound on blocks that a call of `fgets` ends.
use Rattle.std.specs.Prelude.{ℤ}
use Rattle.cc_base.specs.Lattices.{LatticeOf}
use Rattle.cc_base.specs.IntegerDomains.{IntegersOf}
use Rattle.cc_base.specs.declared.limit_table.Limits.{Limits}
use Rattle.cfg.specs.declared.machine_instructions.Operation.{Operation}
use Rattle.cfg.specs.declared.machine_instructions.Operation.TheVariants as op
use Rattle.cfg.specs.declared.programs.Flow.{Flow}
use Rattle.store_sound.specs.Programs.Premises.{HasPremises}
use Rattle.transfer_sound.specs.Induction.SoundEnds.{EndsAreSound}

-- calls of `fgets`
abbrev pub IsLineEnd : Operation → Type 0
IsLineEnd (op.ReadLine to line count stream) = Unit {0}
IsLineEnd _ = ⊥

module _ {I : Type 0} (l : LatticeOf I) (n : IntegersOf I) (gamma : I → ℤ → Type 0) (flow : Flow) where
  abbrev pub LineEndsAreSound : Type 0
  LineEndsAreSound = (limits : Limits) → HasPremises flow → EndsAreSound l n gamma flow limits IsLineEnd

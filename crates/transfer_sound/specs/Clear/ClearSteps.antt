-- When the analysis's step that clears an object is sound.
use Rattle.std.specs.Prelude.{◌≡◌, ℤ, true}
use Rattle.cc_base.specs.Lattices.{LatticeOf}
use Rattle.cc_base.specs.IntegerDomains.{IntegersOf}
use Rattle.cc_base.specs.declared.limit_table.Limits.{Limits}
use Rattle.cfg.specs.WellFormed.{is_well_formed}
use Rattle.cfg.specs.declared.machine_instructions.Operation.{Operation}
use Rattle.cfg.specs.declared.machine_instructions.Operation.TheVariants as op
use Rattle.cfg.specs.declared.programs.Flow.{Flow}
use Rattle.store_sound.specs.Programs.Premises.{HasPremises}
use Rattle.transfer_sound.specs.Values.SoundSteps.{AreSound}

-- all bytes of an object become 0
abbrev pub IsClear : Operation → Type 0
IsClear (op.Clear b) = Unit {0}
IsClear _ = ⊥

module _ {I : Type 0} (l : LatticeOf I) (n : IntegersOf I) (gamma : I → ℤ → Type 0) (flow : Flow) where
  -- the arrays of first zeros of a well-formed program have bytes, of which the first one is 0 then
  abbrev pub ClearStepsAreSound : Type 0
  ClearStepsAreSound = (limits : Limits) → is_well_formed limits flow ≡ true → HasPremises flow → AreSound l n gamma flow IsClear

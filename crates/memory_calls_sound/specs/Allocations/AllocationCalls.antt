-- When the analysis's step on `malloc` or `calloc` is sound.
use Rattle.std.specs.Prelude.{◌≡◌, ℤ, true, Some}
use Rattle.cc_base.specs.Lattices.{LatticeOf}
use Rattle.cc_base.specs.IntegerDomains.{IntegersOf}
use Rattle.cc_base.specs.declared.limit_table.Limits.{Limits}
use Rattle.c_layout.specs.declared.library_functions.LibFn.{LibFn}
use Rattle.c_layout.specs.declared.library_functions.LibFn.TheVariants as f
use Rattle.cfg.specs.WellFormed.{is_well_formed}
use Rattle.cfg.specs.declared.machine_instructions.Operation.{Operation}
use Rattle.cfg.specs.declared.machine_instructions.Operation.TheVariants as op
use Rattle.cfg.specs.declared.programs.Flow.{Flow}
use Rattle.store_sound.specs.Programs.Premises.{HasPremises}
use Rattle.library_sound.specs.SoundSteps.{AreSound}

abbrev pub Allocates : LibFn → Type 0
Allocates f.Malloc = Unit {0}
Allocates f.Calloc = Unit {0}
Allocates _ = ⊥

-- an allocation has a site, as each has that was lowered
abbrev pub IsAllocationCall : Operation → Type 0
IsAllocationCall (op.Library to name arguments (Some newest) size) = Allocates name
IsAllocationCall _ = ⊥

module _ {I : Type 0} (l : LatticeOf I) (n : IntegersOf I) (gamma : I → ℤ → Type 0) (flow : Flow) where
  abbrev pub AllocationCallsAreSound : Type 0
  AllocationCallsAreSound = (limits : Limits) → is_well_formed limits flow ≡ true → HasPremises flow → AreSound l n gamma flow IsAllocationCall

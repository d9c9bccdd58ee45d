-- Runs of the source in which each step is defined.
use Rattle.std.specs.Prelude.{◌≡◌, ℕ, ℤ, List}
use Rattle.c_layout.specs.CheckedUnits.{UnitView}
use Rattle.memory_model.specs.Effects.Worlds.{World, Stuck, Violation}
use Rattle.semantics.specs.SourceMachine.SourceStates.{State}
use Rattle.semantics.specs.SourceMachine.SourceRuns.{running, stopped, Run}
use Rattle.source_items.specs.Returns.StandingJumps.{UnitJumpsStand}
use Rattle.source_items.specs.Liveness.ScopedStatements.{ScopedUnit}
use Rattle.source_preservation.specs.WellTyped.WellTypedStatements.{WellTypedUnit}
use Rattle.source_preservation.specs.WellTyped.WellTypedStates.{Runs}

-- a unit whose jumps have their loops and switches, whose terms have operands of the marks that they take, and
-- whose objects are named in their scopes
pub record IsWellTypedAndScoped (u : UnitView) : Type 0 where
  pub jumps : UnitJumpsStand u
  pub well_typed : WellTypedUnit u
  pub scoped : ScopedUnit u

-- in each run of such a unit, pending values have the marks that what is left to do takes
abbrev pub RunsKeepMarks : Type 0
RunsKeepMarks = (u : UnitView) → IsWellTypedAndScoped u → (draws : List ℤ) (n : ℕ) (s : State) (found : List Violation) (steps : ℕ) → Run u draws n ≡ running s found steps → Runs u s

-- no run of such a unit is ever stuck
abbrev pub RunsAreNeverStuck : Type 0
RunsAreNeverStuck = (u : UnitView) → IsWellTypedAndScoped u → (draws : List ℤ) (n : ℕ) (w : World) (found : List Violation) (steps : ℕ) → Run u draws n ≡ stopped Stuck w found steps → ⊥

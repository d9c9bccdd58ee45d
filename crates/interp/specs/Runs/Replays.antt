-- The run that a replay follows, and what it comes to.
use Rattle.std.specs.Prelude.{◌≡◌, ◌<◌, ℕ, ℤ, Bool, true, false, ◌||◌, nat_lt, nat_le, List, map}
use Rattle.cc_base.specs.DiagnosticOrder.{IsOrderedSet}
use Rattle.cc_base.specs.declared.diagnostics.Diag.{Diag}
use Rattle.c_layout.specs.CheckedUnits.{UnitView}
use Rattle.memory_model.specs.Effects.Worlds.{Violation}
use Rattle.semantics.specs.SourceMachine.SourceRuns.{SourceRun, world_of, found_in, steps_of, Run}
use Rattle.semantics.specs.SourceMachine.RunFacts.{has_stopped, end_of, used, size}
use Rattle.interp_starts.specs.Inputs.Sums.{most_bytes, IsPassed}
use Rattle.interp.specs.Runs.OutcomeViews.{OutcomeView}
use Rattle.interp.specs.declared.runs.outcomes.ReplayStop.{ReplayStop}
use Rattle.interp.specs.declared.runs.outcomes.ReplayStop.TheVariants as stop

-- ---- the run

abbrev pub is_large : SourceRun → Bool
is_large r = nat_lt most_bytes (size r)

-- a run that was to make so many steps is followed no further
abbrev pub is_over : ℕ → SourceRun → Bool
is_over steps r = has_stopped r || (nat_le steps (steps_of r) || is_large r)

-- a run of so many turns, with none of fewer that is over
pub record Reaches (u : UnitView) (draws : List ℤ) (steps : ℕ) (r : SourceRun) : Type 0 where
  pub turns : ℕ
  pub is : Run u draws turns ≡ r
  pub first : (n : ℕ) → n < turns → is_over steps (Run u draws n) ≡ false

-- the run of the fewest turns that is over
pub record Replayed (u : UnitView) (draws : List ℤ) (steps : ℕ) (r : SourceRun) : Type 0 where
  pub reached : Reaches u draws steps r
  pub over : is_over steps r ≡ true

-- ---- its outcome

abbrev pub pair_of : Violation → Diag
pair_of v = record { place = v.at; rule = v.rule }

abbrev pub pairs : SourceRun → List Diag
pairs r = map pair_of (found_in r)

pub record IsOutcome (u : UnitView) (draws : List ℤ) (steps : ℕ) (o : OutcomeView) : Type 0 where
  pub run : SourceRun
  pub replayed : Replayed u draws steps run
  pub small : is_large run ≡ false
  pub diags : IsOrderedSet (pairs run) o.diags
  pub end : o.end ≡ end_of run
  pub used : o.used ≡ used draws run

-- ---- its size

-- the run is too large, first by so many bytes
pub record IsTooLarge (u : UnitView) (draws : List ℤ) (steps count limit : ℕ) : Type 0 where
  pub run : SourceRun
  pub replayed : Replayed u draws steps run
  pub passed : IsPassed count (world_of run).memory
  pub most : limit ≡ most_bytes

-- ---- no outcome

abbrev pub IsStop : UnitView → List ℤ → ℕ → ReplayStop → Type 0
IsStop u draws steps (stop.Large count limit) = IsTooLarge u draws steps count limit
IsStop u draws steps stop.Memory = Unit {0}

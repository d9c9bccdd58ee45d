-- What is said of runs: their violations, their ends, and what they have used.
use Rattle.std.specs.Prelude.{◌≡◌, ◌<◌, ◌≤◌, ◌⊎◌, ℕ, ◌-◌, ℤ, Bool, true, false, List, length, Option, Some, None}
use Rattle.std.specs.List.{Contains}
use Rattle.cc_base.specs.declared.diagnostics.Place.{Place}
use Rattle.cc_base.specs.declared.diagnostics.Rule.{Rule}
use Rattle.c_layout.specs.CheckedUnits.{UnitView}
use Rattle.memory_model.specs.Memory.Instances.{total_size}
use Rattle.memory_model.specs.Effects.Worlds as why
use Rattle.memory_model.specs.Effects.Worlds.{Why}
use Rattle.semantics.specs.SourceMachine.SourceRuns.{SourceRun, running, stopped, world_of, found_in, steps_of, why_of, Run}

-- a run of so many turns violates a rule at a place
abbrev pub Violates : UnitView → List ℤ → ℕ → Rule → Place → Type 0
Violates u draws n rule at = Contains (found_in (Run u draws n)) (record { at = at; rule = rule })

-- ---- runs by steps

abbrev pub has_stopped : SourceRun → Bool
has_stopped (running s found steps) = false
has_stopped (stopped why w found steps) = true

-- the run that has made so many steps, or has stopped before: it is the first run of that many
pub record RunSteps (u : UnitView) (draws : List ℤ) (steps : ℕ) (r : SourceRun) : Type 0 where
  pub turns : ℕ
  pub is : Run u draws turns ≡ r
  pub few : steps_of r ≤ steps
  pub enough : (steps_of r ≡ steps) ⊎ (has_stopped r ≡ true)
  pub first : (n : ℕ) → n < turns → steps_of (Run u draws n) < steps

-- ---- ends

-- how a run stands that was to make so many steps
pub data End : Type 0 where
  Ended : End
  Violation : End
  Draws : End
  Left : End
  Steps : End

-- no unit that was accepted comes to a run that is stuck
abbrev pub end_by : Option Why → End
end_by None = Steps
end_by (Some why.Ended) = Ended
end_by (Some why.Violated) = Violation
end_by (Some why.OutOfDraws) = Draws
end_by (Some why.Left) = Left
end_by (Some why.Stuck) = Left

abbrev pub end_of : SourceRun → End
end_of r = end_by (why_of r)

-- how many numbers of the outside a run has used, one that was out of its range included
abbrev pub used : List ℤ → SourceRun → ℕ
used draws r = length draws - length (world_of r).draws

-- how many bytes all its instances have, those that have ended too
abbrev pub size : SourceRun → ℕ
size r = total_size (world_of r).memory

-- the run makes more bytes than a number
abbrev pub IsLarge : ℕ → SourceRun → Type 0
IsLarge most r = most < size r

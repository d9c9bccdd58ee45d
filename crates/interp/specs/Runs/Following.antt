-- A run that is followed turn by turn.
use Rattle.std.specs.Prelude.{◌≡◌, ◌≤◌, ℕ, ◌+◌, ℤ, Bool, true, false, List, map, Option, Some, is_some, Result, Ok, Err}
use Rattle.cc_base.specs.declared.diagnostics.Diag.{Diag}
use Rattle.cc_base.specs.declared.diagnostics.Place.{Place}
use Rattle.c_layout.specs.CheckedUnits.{UnitView}
use Rattle.memory_model.specs.Memory.Instances.{Memory, total_size}
use Rattle.memory_model.specs.Effects.Worlds.{Violation}
use Rattle.interp_accesses.specs.WorldViews.{world_view, why_view}
use Rattle.interp_accesses.specs.declared.worlds.Cause.{Cause}
use Rattle.interp_accesses.specs.declared.worlds.Halt.{Halt}
use Rattle.interp_starts.specs.Inputs.Sums.{most_bytes, IsPassed, stop_by}
use Rattle.interp_starts.specs.declared.inputs.instance_sums.StartStop.{StartStop}
use Rattle.interp_starts.specs.declared.inputs.instance_sums.StartStop.TheVariants as stop
use Rattle.semantics.specs.SourceMachine.RunFacts.{end_by, end_of}
use Rattle.semantics.specs.SourceMachine.SourceRuns.{SourceRun, running, stopped, world_of, found_in, next}
use Rattle.interp_steps.specs.MachineItems.MachineViews.{state_view}
use Rattle.interp_steps.specs.declared.machine_items.machines.Machine.{Machine}
use Rattle.interp.specs.Runs.OutcomeViews.{end_view}
use Rattle.interp.specs.Runs.Replays.{Replayed, is_large, IsStop}
use Rattle.interp.specs.declared.runs.outcomes.End.{End}
use Rattle.interp.specs.declared.runs.outcomes.ReplayStop.{ReplayStop}
use Rattle.interp.specs.declared.runs.outcomes.ReplayStop.TheVariants as replay

abbrev pub violation_of : Diag → Violation
violation_of d = record { at = d.place; rule = d.rule }

-- ---- runs of the machine

abbrev pub run_view : UnitView → Machine → List Diag → ℕ → SourceRun
run_view u m found steps = running (state_view u m) (map violation_of found) steps

abbrev pub stopped_view : Cause → Machine → List Diag → ℕ → SourceRun
stopped_view why m found steps = stopped (why_view why) (world_view m.world) (map violation_of found) steps

-- ---- one turn

abbrev pub counted_if : Bool → ℕ
counted_if true = 1
counted_if false = 0

-- the run is one that has stopped, whatever its steps
pub record StopsWith (r : SourceRun) (why : Cause) (m : Machine) (found : List Diag) : Type 0 where
  pub steps : ℕ
  pub is : r ≡ stopped_view why m found steps

-- what one turn more comes to, unless memory ran out
abbrev pub GoesOn : UnitView → SourceRun → ℕ → Result Bool StartStop → Machine → List Diag → Type 0
GoesOn u r steps (Ok is_step) m found = next u r ≡ run_view u m found (steps + counted_if is_step)
GoesOn u r steps (Err (stop.Stops why)) m found = StopsWith (next u r) why m found
GoesOn u r steps (Err (stop.Large count)) m found = IsPassed count (world_of (next u r)).memory
GoesOn u r steps (Err stop.Memory) m found = Unit {0}

-- memory is not too large behind a turn
abbrev pub StaysWithin : Result Bool StartStop → Memory → Type 0
StaysWithin (Ok is_step) memory = total_size memory ≤ most_bytes
StaysWithin (Err (stop.Stops why)) memory = total_size memory ≤ most_bytes
StaysWithin (Err (stop.Large count)) memory = Unit {0}
StaysWithin (Err stop.Memory) memory = Unit {0}

-- ---- all turns

pub record Followed (u : UnitView) (draws : List ℤ) (steps : ℕ) (told : End) (m : Machine) (noted : List Diag) : Type 0 where
  pub run : SourceRun
  pub replayed : Replayed u draws steps run
  pub small : is_large run ≡ false
  pub found : found_in run ≡ map violation_of noted
  pub end : end_view told ≡ end_of run
  pub world : world_of run ≡ world_view m.world

abbrev pub FollowsTo : UnitView → List ℤ → ℕ → Result End ReplayStop → Machine → List Diag → Type 0
FollowsTo u draws steps (Ok end) m found = Followed u draws steps end m found
FollowsTo u draws steps (Err why) m found = IsStop u draws steps why

-- ---- stops

-- whether a turn is a step, or why the run stops
abbrev pub told_of : Result (Unit {0}) Halt → Option Place → Result Bool StartStop
told_of (Ok x) counted = Ok (is_some counted)
told_of (Err h) counted = Err (stop_by h)

-- how a run stands that stops, or why it has no outcome
abbrev pub EndsAs : StartStop → Result End ReplayStop → Type 0
EndsAs (stop.Stops why) (Ok told) = end_view told ≡ end_by (Some (why_view why))
EndsAs (stop.Stops why) (Err e) = ⊥
EndsAs (stop.Large count) r = r ≡ Err (replay.Large count most_bytes)
EndsAs stop.Memory r = r ≡ Err replay.Memory

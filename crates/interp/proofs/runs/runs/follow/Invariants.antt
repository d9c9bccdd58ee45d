use Rattle.std.proofs.Common.{◌≤◌, ℤ, List}
use Rattle.c_layout.specs.CheckedUnits.{unit_view}
use Rattle.memory_model.specs.Memory.Instances.{total_size}
use Rattle.interp_starts.specs.Inputs.Sums.{most_bytes}
use Rattle.interp.specs.Runs.Following.{run_view}
use Rattle.interp.specs.Runs.Replays.{Reaches}
use Rattle.interp.proofs.runs.runs.follow.Given as goal

abbrev pub invariant-turns : goal.invariant-turns
invariant-turns l = (total_size l.m.world.memory.memory ≤ most_bytes) × ((draws : List ℤ) → Reaches (unit_view l.unit) draws l.steps (run_view (unit_view l.unit) l.initial.m l.initial.found.items 0) → Reaches (unit_view l.unit) draws l.steps (run_view (unit_view l.unit) l.m l.found.items l.made))

-- What the start of a run comes to.
use Rattle.std.specs.Prelude.{◌≡◌, Result, Ok, Err}
use Rattle.c_layout.specs.CheckedUnits.{UnitView}
use Rattle.memory_model.specs.Effects.Worlds.{World, Reply, stops, done, world_of}
use Rattle.memory_model.specs.Effects.UnitStarts.{with_parameters, entry_parameters}
use Rattle.interp_accesses.specs.WorldViews.{why_view}
use Rattle.interp_starts.specs.Starts.Rewrites.{objects_made, literals_made}
use Rattle.interp_starts.specs.Inputs.Sums.{IsPassed}
use Rattle.interp_starts.specs.declared.inputs.instance_sums.StartStop.{StartStop}
use Rattle.interp_starts.specs.declared.inputs.instance_sums.StartStop.TheVariants as stop

-- a start that does not go on: the run stops, or memory is too large, unless memory ran out
abbrev pub StopsStart : Reply (Unit {0}) → StartStop → World → Type 0
StopsStart reply (stop.Stops why) w = reply ≡ stops (why_view why) w
StopsStart reply (stop.Large count) w = IsPassed count (world_of reply).memory
StopsStart reply stop.Memory w = Unit {0}

-- what a part of the start comes to
abbrev pub StartsAs : Reply (Unit {0}) → Result (Unit {0}) StartStop → World → Type 0
StartsAs reply (Ok x) w = reply ≡ done w
StartsAs reply (Err why) w = StopsStart reply why w

-- objects of static storage, literals and the entry's parameters are made one after the other
abbrev pub started : UnitView → World → Reply (Unit {0})
started u w = with_parameters u (entry_parameters u) (literals_made u.literals (objects_made u u.objects w))

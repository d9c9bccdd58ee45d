use Rattle.std.proofs.Common.{◌≡◌}
use Rattle.c_layout.specs.StructViews.{structs_view}
use Rattle.c_layout.specs.CheckedUnits.{function_view}
use Rattle.lower_objects.specs.Counts.BaseCounts.{tally, with_slots}
use Rattle.lower_objects.proofs.counts.object_counts.BaseTally.add_parameters.Given as goal

abbrev pub invariant-loop-number : goal.invariant-loop-number
invariant-loop-number l = tally l.self ≡ with_slots (structs_view l.unit.structs) (function_view l.function) l.number (tally l.initial.self)

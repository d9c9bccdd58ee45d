use Rattle.std.proofs.Common.{◌≡◌, map, drop}
use Rattle.c_layout.specs.StructViews.{structs_view}
use Rattle.c_layout.specs.CheckedUnits.{function_view}
use Rattle.lower_templates.specs.Worklist.Pieces.{name_view}
use Rattle.lower_objects.specs.Counts.BaseCounts.{tally, with_names}
use Rattle.lower_objects.proofs.counts.object_counts.BaseTally.add_names.Given as goal

abbrev pub invariant-loop-name : goal.invariant-loop-name
invariant-loop-name l = with_names (structs_view l.unit.structs) l.unit.model.pointer (function_view l.function) (map name_view (drop l.name-index l.names)) (tally l.self) ≡ with_names (structs_view l.unit.structs) l.unit.model.pointer (function_view l.function) (map name_view l.names) (tally l.initial.self)

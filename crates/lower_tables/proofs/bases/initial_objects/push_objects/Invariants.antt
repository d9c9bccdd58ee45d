use Rattle.std.proofs.Common.{◌≡◌, ◌++◌, map, drop}
use Rattle.c_layout.specs.CheckedUnits.{unit_view, static_view}
use Rattle.lower_tables.specs.Bases.BaseTables.{table}
use Rattle.lower_tables.specs.Bases.InitialBytes.{objects_from}
use Rattle.lower_templates.specs.Views.ProgramViews.{initial}
use Rattle.lower_tables.proofs.bases.initial_objects.push_objects.Given as goal

abbrev pub invariant-loop-at : goal.invariant-loop-at
invariant-loop-at l = map initial l.list.items ++ objects_from (unit_view l.unit) (table l.bases) l.at (map static_view (drop l.at l.unit.objects.items)) ≡ map initial l.initial.list.items ++ objects_from (unit_view l.unit) (table l.bases) 0 (map static_view l.unit.objects.items)

use Rattle.std.proofs.Common.{◌≡◌, ◌++◌, map, drop}
use Rattle.c_layout.specs.CheckedUnits.{literal_view}
use Rattle.lower_tables.specs.Bases.BaseTables.{table}
use Rattle.lower_tables.specs.Bases.InitialBytes.{literals_from}
use Rattle.lower_templates.specs.Views.ProgramViews.{initial}
use Rattle.lower_tables.proofs.bases.initial_objects.push_literals.Given as goal

abbrev pub invariant-loop-at : goal.invariant-loop-at
invariant-loop-at l = map initial l.list.items ++ literals_from (table l.bases) l.at (map literal_view (drop l.at l.literals)) ≡ map initial l.initial.list.items ++ literals_from (table l.bases) 0 (map literal_view l.literals)

use Rattle.std.proofs.Common.{◌≡◌, map, drop}
use Rattle.c_layout.specs.CheckedUnits.{local_view}
use Rattle.c_types.specs.Units.UnitEntries.{integers_from}
use Rattle.c_types.proofs.units.unit_entries.are_integers.Given as goal

abbrev pub invariant-loop-at : goal.invariant-loop-at
invariant-loop-at l = integers_from l.at l.count (map local_view (drop l.at l.objects)) ≡ integers_from 0 l.count (map local_view l.objects)

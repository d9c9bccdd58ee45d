use Rattle.std.proofs.Common.{◌≡◌, map, drop}
use Rattle.c_layout.specs.CheckedUnits.{function_view}
use Rattle.c_types.specs.Units.UnitEntries.{entry_from}
use Rattle.c_types.proofs.units.unit_entries.entry_number.Given as goal

abbrev pub invariant-loop-at : goal.invariant-loop-at
invariant-loop-at l = entry_from l.at (map function_view (drop l.at l.functions)) l.entry ≡ entry_from 0 (map function_view l.functions) l.entry

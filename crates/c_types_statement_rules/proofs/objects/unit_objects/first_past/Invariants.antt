use Rattle.std.proofs.Common.{◌≡◌, map, drop}
use Rattle.c_layout.specs.CheckedUnits.{static_view}
use Rattle.c_types_statement_rules.specs.Objects.UnitObjects.{first_past}
use Rattle.c_types_statement_rules.proofs.objects.unit_objects.first_past.Given as goal

abbrev pub invariant-loop-at : goal.invariant-loop-at
invariant-loop-at l = first_past l.sizes (map static_view l.objects) (drop l.at l.initializers) ≡ first_past l.sizes (map static_view l.objects) l.initializers

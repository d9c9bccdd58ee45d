use Rattle.std.proofs.Common.{◌≡◌, map, drop}
use Rattle.c_layout.specs.CheckedUnits.{static_store_view}
use Rattle.c_types_statement_rules.specs.Objects.UnitObjects.{stores_fit}
use Rattle.c_types_statement_rules.proofs.objects.unit_objects.stores_fit.Given as goal

abbrev pub invariant-loop-at : goal.invariant-loop-at
invariant-loop-at l = stores_fit l.sizes (map static_store_view (drop l.at l.stores)) ≡ stores_fit l.sizes (map static_store_view l.stores)

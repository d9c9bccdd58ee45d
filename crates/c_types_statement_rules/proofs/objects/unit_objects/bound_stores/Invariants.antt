use Rattle.std.proofs.Common.{◌≡◌, map}
use Rattle.c_layout.specs.CheckedUnits.{static_store_view}
use Rattle.c_types_statement_rules.specs.Objects.UnitObjects.{bounded_store}
use Rattle.c_types_statement_rules.specs.Objects.Changes.{done}
use Rattle.c_types_statement_rules.proofs.objects.unit_objects.bound_stores.Given as goal

abbrev pub invariant-loop-at : goal.invariant-loop-at
invariant-loop-at l = map static_store_view l.stores.items ≡ done (bounded_store l.sizes) l.at (map static_store_view l.initial.stores.items)

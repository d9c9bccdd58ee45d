use Rattle.c_layout.specs.CheckedUnits.{static_store_view}
use Rattle.c_types_statement_rules.specs.Objects.UnitObjects.{bounded_store}
use Rattle.c_types_statement_rules.proofs.objects.InPlace.{changed_in}
use Rattle.c_types_statement_rules.proofs.objects.unit_objects.bound_at.Goals as goal

pub returns-in-Some : goal.returns-in-Some
returns-in-Some c = changed_in static_store_view (bounded_store c.args.sizes.now) c.args.stores.now.items c.args.at c.in-Some.store.now c.bound_store.new.store c.in-Some.ensures.item.3.0 c.in-Some.ensures.value c.bound_store.ensures

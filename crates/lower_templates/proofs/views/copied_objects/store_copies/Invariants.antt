use Rattle.std.proofs.Common.{◌≡◌, ◌++◌, map, drop}
use Rattle.c_layout.specs.CheckedUnits.{static_store_view}
use Rattle.lower_templates.proofs.views.copied_objects.store_copies.Given as goal

abbrev pub invariant-loop-store : goal.invariant-loop-store
invariant-loop-store l = map static_store_view l.list.items ++ map static_store_view (drop l.store-index l.stores) ≡ map static_store_view l.stores

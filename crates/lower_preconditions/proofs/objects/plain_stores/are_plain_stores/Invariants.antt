use Rattle.std.proofs.Common.{◌≡◌, drop, map}
use Rattle.std.specs.List.{list_all}
use Rattle.c_layout.specs.CheckedUnits.{static_store_view}
use Rattle.lower_preconditions.specs.Objects.PlainObjects as spec
use Rattle.lower_preconditions.proofs.objects.plain_stores.are_plain_stores.Given as goal

abbrev pub invariant-loop-at : goal.invariant-loop-at
invariant-loop-at l = list_all (spec.is_plain_store l.model) (map static_store_view (drop l.at l.stores)) ≡ list_all (spec.is_plain_store l.model) (map static_store_view l.stores)

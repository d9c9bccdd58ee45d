use Rattle.std.proofs.Common.{◌≡◌, ◌++◌, map, drop}
use Rattle.c_layout.specs.CheckedUnits.{static_store_view}
use Rattle.lower_objects.specs.Counts.SharedObjects.{all_pointed}
use Rattle.lower_objects.proofs.counts.shared_objects.all_pointed.Given as goal

abbrev pub invariant-loop-store : goal.invariant-loop-store
invariant-loop-store l = l.list.items ++ all_pointed (map static_store_view (drop l.store-index l.stores)) ≡ all_pointed (map static_store_view l.stores)

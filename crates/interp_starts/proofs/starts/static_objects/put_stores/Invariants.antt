use Rattle.std.proofs.Common.{◌≡◌, map, drop}
use Rattle.c_layout.specs.CheckedUnits.{unit_view, static_store_view}
use Rattle.interp_accesses.specs.WorldViews.{world_view}
use Rattle.interp_starts.specs.Starts.Rewrites.{stores_put}
use Rattle.interp_starts.proofs.starts.static_objects.put_stores.Given as goal

abbrev pub invariant-loop-store : goal.invariant-loop-store
invariant-loop-store l = stores_put (unit_view l.unit) (map static_store_view (drop l.store-index l.stores)) l.inst (world_view l.w) ≡ stores_put (unit_view l.unit) (map static_store_view l.stores) l.inst (world_view l.initial.w)

use Rattle.std.proofs.Common.{◌≡◌, map, drop}
use Rattle.c_layout.specs.CheckedTrees.{store_tree}
use Rattle.c_types_scopes.specs.Known.{known}
use Rattle.c_types_initializers.specs.StaticStores.{stores_view, stores_from, list_stores}
use Rattle.c_types_initializers.proofs.static_initializers.list_stores.Given as goal

abbrev pub invariant-loop-store : goal.invariant-loop-store
invariant-loop-store l = stores_from (known l.cx) l.equals (stores_view l.made) (map store_tree (drop l.store-index l.list)) ≡ list_stores (known l.cx) l.equals (map store_tree l.list)

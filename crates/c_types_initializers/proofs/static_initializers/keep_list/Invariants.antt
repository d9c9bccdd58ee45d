use Rattle.std.proofs.Common.{◌≡◌, map}
use Rattle.c_layout.specs.CheckedTrees.{store_tree}
use Rattle.c_types_scopes.specs.States.{state}
use Rattle.c_types_initializers.specs.StaticStores.{with_list}
use Rattle.c_types_initializers.proofs.static_initializers.keep_list.Given as goal

abbrev pub invariant-loop-store : goal.invariant-loop-store
invariant-loop-store l = state l.cx ≡ with_list (state l.fn.cx) (map store_tree l.yielded)

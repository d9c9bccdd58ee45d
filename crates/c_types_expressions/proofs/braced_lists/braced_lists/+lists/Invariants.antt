use Rattle.std.proofs.Common.{◌≡◌, map, drop}
use Rattle.c_layout.specs.DeclarationTrees.{initializer_tree, initializer_trees}
use Rattle.c_types_scopes.specs.States.{state}
use Rattle.c_types_initializers.specs.Subobjects.{cursor_view}
use Rattle.c_types_initializers.specs.ListStores.{filling_view}
use Rattle.c_types_expressions.specs.BracedLists.BracedLists as spec
use Rattle.c_types_expressions.proofs.braced_lists.braced_lists.+lists.Given as goal

abbrev pub invariant-fill_items-loop-item : goal.invariant-fill_items-loop-item
invariant-fill_items-loop-item l = spec.fill_items (state l.fn.cx) l.equals (cursor_view l.fn.cursor) (filling_view l.fn.filling) (initializer_trees (map initializer_tree l.items)) ≡ spec.fill_items (state l.cx) l.equals (cursor_view l.cursor) (filling_view l.filling) (initializer_trees (map initializer_tree (drop l.item-index l.items)))

use Rattle.std.proofs.Common.{◌≡◌, map, drop}
use Rattle.c_layout.specs.DeclarationTrees.{initializer_tree, initializer_trees}
use Rattle.c_types_scopes.specs.States.{state}
use Rattle.c_types_expressions.specs.BracedLists.BracedLists as spec
use Rattle.c_types_expressions.proofs.braced_lists.braced_lists.+unused.Given as goal

abbrev pub invariant-typed_items-loop-item : goal.invariant-typed_items-loop-item
invariant-typed_items-loop-item l = spec.typed_items (state l.fn.cx) (initializer_trees (map initializer_tree l.items)) ≡ spec.typed_items (state l.cx) (initializer_trees (map initializer_tree (drop l.item-index l.items)))

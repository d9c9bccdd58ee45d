use Rattle.std.proofs.Common.{◌≡◌, map, drop}
use Rattle.c_layout.specs.CheckedTrees.{statement_tree, statement_trees}
use Rattle.lower_preconditions.specs.Units.ScopeObjects.{all_scopes_marked}
use Rattle.lower_preconditions.proofs.units.scope_objects.+scopes.Given as goal

abbrev pub invariant-mark_all_scopes-loop-statement : goal.invariant-mark_all_scopes-loop-statement
invariant-mark_all_scopes-loop-statement l = all_scopes_marked (statement_trees (map statement_tree (drop l.statement-index l.list))) l.seen.items ≡ all_scopes_marked (statement_trees (map statement_tree l.list)) l.initial.seen.items

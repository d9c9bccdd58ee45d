use Rattle.std.proofs.Common.{◌≡◌, map, drop}
use Rattle.c_layout.specs.CheckedTrees.{statement_tree, statement_trees}
use Rattle.lower_templates.specs.Worklist.Scopes.{tree_view, all_scoped}
use Rattle.lower_templates.proofs.worklist.scope_trees.+scopes.Given as goal

abbrev pub invariant-visit_all-loop-statement : goal.invariant-visit_all-loop-statement
invariant-visit_all-loop-statement l = all_scoped (statement_trees (map statement_tree (drop l.statement-index l.list))) l.scope l.choice (tree_view l.tree) ≡ all_scoped (statement_trees (map statement_tree l.list)) l.scope l.choice (tree_view l.initial.tree)

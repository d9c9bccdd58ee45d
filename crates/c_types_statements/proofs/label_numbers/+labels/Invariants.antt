use Rattle.std.proofs.Common.{◌≡◌, map, drop}
use Rattle.c_layout.specs.DeclarationTrees.{statement_tree, statement_trees}
use Rattle.c_types_scopes.specs.States.{state}
use Rattle.c_types_statement_rules.specs.StatementRules.BodyFlow.{flow_view}
use Rattle.c_types_statement_rules.specs.StatementRules.Points.{point}
use Rattle.c_types_statements.specs.LabelNumbers.{with_all_labels}
use Rattle.c_types_statements.proofs.label_numbers.+labels.Given as goal

abbrev pub invariant-add_labels-loop-item : goal.invariant-add_labels-loop-item
invariant-add_labels-loop-item l = with_all_labels (statement_trees (map statement_tree (drop l.item-index l.items))) (point (state l.cx) (flow_view l.flow)) ≡ with_all_labels (statement_trees (map statement_tree l.items)) (point (state l.initial.cx) (flow_view l.initial.flow))

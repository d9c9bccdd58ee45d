use Rattle.std.proofs.Common.{◌≡◌, map, drop}
use Rattle.c_layout.specs.DeclarationTrees.{statement_tree, statement_trees}
use Rattle.c_types_scopes.specs.States.{state}
use Rattle.c_types_statement_rules.specs.StatementRules.BodyFlow.{flow_view}
use Rattle.c_types_statement_rules.specs.StatementRules.Points.{point}
use Rattle.c_types_statement_rules.specs.Objects.LocalObjects.{parts_view}
use Rattle.c_types_statements.specs.LocalDeclarations.{local_declaration}
use Rattle.c_types_statements.specs.Statements.{items}
use Rattle.c_types_statements.proofs.statements.+statements.Given as goal

abbrev pub invariant-items-loop-s : goal.invariant-items-loop-s
invariant-items-loop-s l = items local_declaration (point (state l.fn.cx) (flow_view l.fn.flow)) (parts_view l.fn.parts) (statement_trees (map statement_tree l.list)) ≡ items local_declaration (point (state l.cx) (flow_view l.flow)) (parts_view l.parts) (statement_trees (map statement_tree (drop l.s-index l.list)))

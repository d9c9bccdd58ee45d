use Rattle.std.proofs.Common.{rules, ◌≡◌, ap}
use Rattle.c_layout.specs.SyntaxTrees.{tree_of}
use Rattle.c_layout.specs.DeclarationTrees as syntax
use Rattle.c_layout.specs.DeclarationTrees.{name_view, statement_tree}
use Rattle.c_layout.specs.declared.syntax_tree.statements.Statement.{the_lemmas}
use Rattle.c_types_scopes.specs.States.{state}
use Rattle.c_types_operands.specs.Operands.{boxed_term}
use Rattle.c_types_statement_rules.specs.StatementRules.BodyFlow.{flow_view}
use Rattle.c_types_statement_rules.specs.StatementRules.Points.{Point, point}
use Rattle.c_types_statement_rules.specs.StatementRules.SimpleStatements.{boxed_statement}
use Rattle.c_types_statements.specs.LocalDeclarations.{local_declaration}
use Rattle.c_types_statements.specs.Statements as spec
use Rattle.c_types_statements.proofs.Steps.{as_well, branched}
use Rattle.c_types_statements.proofs.statements.+statements.Goals as goal

pub statement-returns-in-Goto : goal.statement-returns-in-Goto
statement-returns-in-Goto t c =
    let p : Point = point (state c.args.cx.now) (flow_view c.args.flow.now) in
    let is : statement_tree c.args.s.now ≡ syntax.Goto c.in-Goto.at (name_view c.in-Goto.name) = search (rules, the_lemmas) in
    as_well boxed_statement (spec.statement local_declaration p (syntax.Goto c.in-Goto.at (name_view c.in-Goto.name))) (spec.statement local_declaration p (statement_tree c.args.s.now)) c.goto_alone.result (point (state c.goto_alone.new.cx) (flow_view c.args.flow.now))
    (ap (spec.statement local_declaration p) is) c.goto_alone.ensures

pub statement-returns-in_ok-value-in-IfElse : goal.statement-returns-in_ok-value-in-IfElse
statement-returns-in_ok-value-in-IfElse t c =
    let p : Point = point (state c.args.cx.now) (flow_view c.args.flow.now) in
    let q : Point = point (state c.second_branch.new.cx) (flow_view c.second_branch.new.flow) in
    let is : statement_tree c.args.s.now ≡ syntax.IfElse c.in-IfElse.at (tree_of c.in-IfElse.e) (statement_tree c.deref-in-IfElse.result.now) (statement_tree c.deref-in-IfElse-2.result.now) = search (rules, the_lemmas) in
    as_well boxed_statement (spec.statement local_declaration p (syntax.IfElse c.in-IfElse.at (tree_of c.in-IfElse.e) (statement_tree c.deref-in-IfElse.result.now) (statement_tree c.deref-in-IfElse-2.result.now))) (spec.statement local_declaration p (statement_tree c.args.s.now)) c.second_branch.result q
    (ap (spec.statement local_declaration p) is)
    (branched boxed_statement local_declaration p (point (state c.first_branch.new.cx) (flow_view c.first_branch.new.flow)) q c.in-IfElse.at (tree_of c.in-IfElse.e) (statement_tree c.deref-in-IfElse.result.now) (statement_tree c.deref-in-IfElse-2.result.now) (boxed_term c.in_ok-value-in-IfElse.value, boxed_statement c.in_ok-value-in-IfElse.made) c.second_branch.result
    c.in_ok-value-in-IfElse.ensures c.second_branch.ensures)

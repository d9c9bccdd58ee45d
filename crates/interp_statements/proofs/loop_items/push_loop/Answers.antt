use Rattle.std.proofs.Common.{rules, ◌≡◌, true, [], ◌∷◌, ◌++◌, List, Some, None, map, ap, sym, ◌∙◌}
use Rattle.std.specs.Option.{option_map}
use Rattle.c_layout.specs.CheckedTrees as tree
use Rattle.c_layout.specs.CheckedTrees.{StatementTree, term_tree, statement_tree, statement_trees}
use Rattle.c_layout.specs.declared.checked_tree.checked_statements.CheckedStatement as of_statement
use Rattle.semantics.specs.SourceMachine.Items as machine
use Rattle.semantics.specs.SourceMachine.Items.{Item}
use Rattle.semantics.specs.SourceMachine.ConditionItems.{condition}
use Rattle.semantics.specs.SourceMachine.StatementItems as spec
use Rattle.interp_stack.specs.ItemViews.{loop_item, turn_items, loop_turn}
use Rattle.interp_stack.specs.StackViews.{standing}
use Rattle.interp_stack.proofs.Sequels.{goes_on}
use Rattle.interp_statements.proofs.loop_items.push_loop.Goals as goal

pub returns-in-While : goal.returns-in-While
returns-in-While c = λ u.
    let s = standing u c.args.control.now.items in
    let whole : StatementTree → List Item = λ x. loop_turn u x ++ s.items in
    let seen = tree.While (term_tree c.in-While.condition) (statement_tree c.in-While.field-1.value) in
    let is : statement_tree c.args.statement.now ≡ seen = search (rules, of_statement.the_lemmas) in
    let pushed : StatementTree → List Item = λ x. (condition u true (term_tree c.in-While.condition) (turn_items x) []) ++ s.items in
    goes_on c.push_turn_test.result (standing u c.push_turn_test.new.control.items).items (pushed (statement_tree c.args.statement.now)) (whole (statement_tree c.args.statement.now)) (ap pushed is ∙ ap whole (sym is)) (c.push_turn_test.ensures u)

pub returns-in-Do : goal.returns-in-Do
returns-in-Do c = λ u.
    let s = standing u c.args.control.now.items in
    let whole : StatementTree → List Item = λ x. loop_turn u x ++ s.items in
    let seen = tree.Do (statement_tree c.deref.result.now) (term_tree c.in-Do.condition) in
    let is : statement_tree c.args.statement.now ≡ seen = search (rules, of_statement.the_lemmas) in
    let pushed : StatementTree → List Item = λ x. (machine.Statement (statement_tree c.deref.result.now) ∷ (machine.IterationEnd ∷ condition u true (term_tree c.in-Do.condition) (turn_items x) [])) ++ s.items in
    goes_on c.push_do_turn.result (standing u c.push_do_turn.new.control.items).items (pushed (statement_tree c.args.statement.now)) (whole (statement_tree c.args.statement.now)) (ap pushed is ∙ ap whole (sym is)) (c.push_do_turn.ensures u)

pub returns-in-For-default-default-Some-default-default : goal.returns-in-For-default-default-Some-default-default
returns-in-For-default-default-Some-default-default c = λ u.
    let s = standing u c.args.control.now.items in
    let whole : StatementTree → List Item = λ x. loop_turn u x ++ s.items in
    let seen = tree.For c.in-For-default-default-Some-default-default.field-0.items (statement_trees (map statement_tree c.in-For-default-default-Some-default-default.field-1.items)) (Some (term_tree c.in-For-default-default-Some-default-default.condition)) (option_map term_tree c.in-For-default-default-Some-default-default.field-3) (statement_tree c.in-For-default-default-Some-default-default.field-4.value) in
    let is : statement_tree c.args.statement.now ≡ seen = search (rules, of_statement.the_lemmas) in
    let pushed : StatementTree → List Item = λ x. (condition u true (term_tree c.in-For-default-default-Some-default-default.condition) (turn_items x) []) ++ s.items in
    goes_on c.push_turn_test-in-For-default-default-Some-default-default.result (standing u c.push_turn_test-in-For-default-default-Some-default-default.new.control.items).items (pushed (statement_tree c.args.statement.now)) (whole (statement_tree c.args.statement.now)) (ap pushed is ∙ ap whole (sym is)) (c.push_turn_test-in-For-default-default-Some-default-default.ensures u)

pub returns-in-For-default-default-None-default-default : goal.returns-in-For-default-default-None-default-default
returns-in-For-default-default-None-default-default c = λ u.
    let s = standing u c.args.control.now.items in
    let whole : StatementTree → List Item = λ x. loop_turn u x ++ s.items in
    let seen = tree.For c.in-For-default-default-None-default-default.field-0.items (statement_trees (map statement_tree c.in-For-default-default-None-default-default.field-1.items)) None (option_map term_tree c.in-For-default-default-None-default-default.step) (statement_tree c.deref-in-For-default-default-None-default-default.result.now) in
    let is : statement_tree c.args.statement.now ≡ seen = search (rules, of_statement.the_lemmas) in
    let pushed : StatementTree → List Item = λ x. (machine.Statement (statement_tree c.deref-in-For-default-default-None-default-default.result.now) ∷ (machine.IterationEnd ∷ (spec.clause (option_map term_tree c.in-For-default-default-None-default-default.step) ++ (machine.Hop ∷ (loop_item x ∷ []))))) ++ s.items in
    goes_on c.push_for_body.result (standing u c.push_for_body.new.control.items).items (pushed (statement_tree c.args.statement.now)) (whole (statement_tree c.args.statement.now)) (ap pushed is ∙ ap whole (sym is)) (c.push_for_body.ensures u)

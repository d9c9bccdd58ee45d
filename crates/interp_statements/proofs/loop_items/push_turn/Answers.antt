use Rattle.std.proofs.Common.{rules, ◌≡◌, [], ◌∷◌, ◌++◌, List, map, ap, sym, ◌∙◌}
use Rattle.std.specs.Option.{option_map}
use Rattle.c_layout.specs.CheckedTrees as tree
use Rattle.c_layout.specs.CheckedTrees.{StatementTree, term_tree, statement_tree, statement_trees}
use Rattle.c_layout.specs.declared.checked_tree.checked_statements.CheckedStatement as of_statement
use Rattle.semantics.specs.SourceMachine.Items as machine
use Rattle.semantics.specs.SourceMachine.Items.{Item}
use Rattle.semantics.specs.SourceMachine.StatementItems as spec
use Rattle.interp_stack.specs.ItemViews.{loop_item, turn_items}
use Rattle.interp_stack.specs.StackViews.{with_item, standing}
use Rattle.interp_stack.proofs.Sequels.{goes_on, items_go_on}
use Rattle.interp_statements.proofs.loop_items.push_turn.Goals as goal

pub returns-in-While : goal.returns-in-While
returns-in-While c = λ u.
    let s = standing u c.args.control.now.items in
    let whole : StatementTree → List Item = λ x. turn_items x ++ s.items in
    let seen = tree.While (term_tree c.in-While.field-0) (statement_tree c.deref.result.now) in
    let is : statement_tree c.args.statement.now ≡ seen = search (rules, of_statement.the_lemmas) in
    let pushed : StatementTree → List Item = λ x. (machine.Statement (statement_tree c.deref.result.now) ∷ (machine.Hop ∷ (machine.IterationEnd ∷ (loop_item x ∷ [])))) ++ s.items in
    goes_on c.push_while_body.result (standing u c.push_while_body.new.control.items).items (pushed (statement_tree c.args.statement.now)) (whole (statement_tree c.args.statement.now)) (ap pushed is ∙ ap whole (sym is)) (c.push_while_body.ensures u)

pub returns-in-Do : goal.returns-in-Do
returns-in-Do c = λ u.
    let s = standing u c.args.control.now.items in
    let whole : StatementTree → List Item = λ x. turn_items x ++ s.items in
    let seen = tree.Do (statement_tree c.in-Do.field-0.value) (term_tree c.in-Do.field-1) in
    let is : statement_tree c.args.statement.now ≡ seen = search (rules, of_statement.the_lemmas) in
    let item : StatementTree → Item = λ x. loop_item x in
    items_go_on c.push_item.result (standing u c.push_item.new.control.items) (with_item (item (statement_tree c.args.statement.now)) s) (whole (statement_tree c.args.statement.now)) (ap (λ x. item x ∷ s.items) is ∙ ap whole (sym is)) (c.push_item.ensures u)

pub returns-in-For : goal.returns-in-For
returns-in-For c = λ u.
    let s = standing u c.args.control.now.items in
    let whole : StatementTree → List Item = λ x. turn_items x ++ s.items in
    let seen = tree.For c.in-For.field-0.items (statement_trees (map statement_tree c.in-For.field-1.items)) (option_map term_tree c.in-For.field-2) (option_map term_tree c.in-For.step) (statement_tree c.deref-in-For.result.now) in
    let is : statement_tree c.args.statement.now ≡ seen = search (rules, of_statement.the_lemmas) in
    let pushed : StatementTree → List Item = λ x. (machine.Statement (statement_tree c.deref-in-For.result.now) ∷ (machine.IterationEnd ∷ (spec.clause (option_map term_tree c.in-For.step) ++ (machine.Hop ∷ (loop_item x ∷ []))))) ++ s.items in
    goes_on c.push_for_body.result (standing u c.push_for_body.new.control.items).items (pushed (statement_tree c.args.statement.now)) (whole (statement_tree c.args.statement.now)) (ap pushed is ∙ ap whole (sym is)) (c.push_for_body.ensures u)

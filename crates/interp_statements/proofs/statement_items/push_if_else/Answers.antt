use Rattle.std.proofs.Common.{true, [], ◌∷◌, ◌++◌, refl}
use Rattle.c_layout.specs.CheckedTrees.{term_tree, statement_tree}
use Rattle.semantics.specs.SourceMachine.Items as machine
use Rattle.semantics.specs.SourceMachine.ConditionItems.{condition}
use Rattle.interp_stack.specs.StackViews.{with_items, standing}
use Rattle.interp_stack.proofs.Sequels.{items_go_on}
use Rattle.interp_statements.proofs.statement_items.push_if_else.Goals as goal

pub returns : goal.returns
returns c = λ u.
    let s = standing u c.args.control.now.items in
    items_go_on c.push_test.result (standing u c.push_test.new.control.items) (with_items (condition u true (term_tree c.args.test.now) (machine.Statement (statement_tree c.args.first.now) ∷ (machine.Hop ∷ [])) (machine.Statement (statement_tree c.args.second.now) ∷ [])) s) (condition u true (term_tree c.args.test.now) (machine.Statement (statement_tree c.args.first.now) ∷ (machine.Hop ∷ [])) (machine.Statement (statement_tree c.args.second.now) ∷ []) ++ s.items) refl (c.push_test.ensures u)

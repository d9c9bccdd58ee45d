use Rattle.std.proofs.Common.{[], ◌∷◌, ◌++◌, refl}
use Rattle.c_layout.specs.CheckedTrees.{statement_tree}
use Rattle.semantics.specs.SourceMachine.Items as machine
use Rattle.interp_stack.specs.StackViews.{with_item, standing}
use Rattle.interp_stack.proofs.Sequels.{items_go_on}
use Rattle.interp_statements.proofs.statement_items.push_whole.Goals as goal

pub returns : goal.returns
returns c = λ u.
    let s = standing u c.args.control.now.items in
    items_go_on c.push_item.result (standing u c.push_item.new.control.items) (with_item (machine.Statement (statement_tree c.args.statement.now)) s) ((machine.Statement (statement_tree c.args.statement.now) ∷ []) ++ s.items) refl (c.push_item.ensures u)

use Rattle.std.proofs.Common.{◌++◌, map, refl}
use Rattle.c_layout.specs.CheckedTrees.{statement_tree}
use Rattle.semantics.specs.SourceMachine.StatementItems.{list_statements}
use Rattle.interp_stack.specs.StackViews.{with_items, standing}
use Rattle.interp_stack.proofs.Sequels.{items_go_on}
use Rattle.interp_statements.proofs.statement_items.push_statements.Goals as goal

pub returns : goal.returns
returns c = λ u.
    let s = standing u c.args.control.now.items in
    items_go_on c.push_item.result (standing u c.push_item.new.control.items) (with_items (list_statements (map statement_tree c.args.statements.now)) s) (list_statements (map statement_tree c.args.statements.now) ++ s.items) refl (c.push_item.ensures u)

use Rattle.std.proofs.Common.{◌+◌, ◌++◌, List, ap, sym}
use Rattle.c_layout.specs.CheckedTrees.{statement_tree}
use Rattle.semantics.specs.SourceMachine.Items as machine
use Rattle.semantics.specs.SourceMachine.Items.{Item}
use Rattle.interp_stack.specs.ItemViews.{next_items}
use Rattle.interp_stack.specs.StackViews.{with_item, standing}
use Rattle.interp_stack.specs.declared.items.Next7.{Next7}
use Rattle.interp_stack.proofs.Sequels.{items_go_on}
use Rattle.interp_statements.proofs.choices.push_next.Goals as goal

pub returns-in-Body : goal.returns-in-Body
returns-in-Body c = λ u.
    let s = standing u c.args.control.now.items in
    let x = statement_tree c.args.statement.now in
    let whole : Next7 → List Item = λ n. next_items n x ++ s.items in
    items_go_on c.push_item.result (standing u c.push_item.new.control.items) (with_item (machine.Statement x) s) (whole c.args.next) (ap whole (sym c.in-Body.is)) (c.push_item.ensures u)

use Rattle.std.proofs.Common.{ap, sym}
use Rattle.c_layout.specs.CheckedTrees.{lvalue_tree}
use Rattle.lower_templates.specs.Worklist.TermKinds.{lvalue_at}
use Rattle.semantics.specs.SourceMachine.Items as machine
use Rattle.interp_stack.specs.ItemViews.{operation_view}
use Rattle.interp_stack.specs.StackViews.{with_item, standing}
use Rattle.interp_stack.proofs.Sequels.{goes_on}
use Rattle.interp_stack.proofs.Trees.{place_of_lvalue}
use Rattle.interp_terms.proofs.operated_items.push_on_lvalue.Goals as goal

pub returns : goal.returns
returns c = λ u.
    let s = standing u c.args.control.now.items in
    let operation = operation_view c.args.operation in
    let lvalue = c.args.lvalue.now in
    goes_on c.push_do.result (standing u c.push_do.new.control.items) (with_item (machine.Do lvalue.place operation) s) (with_item (machine.Do (lvalue_at (lvalue_tree lvalue)) operation) s)
    (ap (λ at. with_item (machine.Do at operation) s) (sym (place_of_lvalue lvalue))) (c.push_do.ensures u)

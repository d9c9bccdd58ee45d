use Rattle.std.proofs.Common.{Option, None, Some, ap}
use Rattle.c_layout.specs.CheckedTrees.{term_tree}
use Rattle.lower_conditions.specs.Conditions.{ReadView, read_view_of}
use Rattle.semantics.specs.SourceMachine.Items.{items_of}
use Rattle.semantics.specs.SourceMachine.ConditionItems.{leaf_by}
use Rattle.interp_stack.specs.StackViews.{with_items, standing}
use Rattle.interp_stack.proofs.Sequels.{goes_on}
use Rattle.interp_stack.proofs.condition_items.push_leaf.Goals as goal

pub returns-in-Some : goal.returns-in-Some
returns-in-Some c = λ u.
    let s = standing u c.args.control.now.items in
    let e = term_tree c.args.term.now in
    let family = λ (r : Option ReadView). with_items (leaf_by u c.args.is_test e r (items_of s.yes) (items_of s.no)) s in
    goes_on c.push_read.result (standing u c.push_read.new.control.items) (family (Some (read_view_of c.in-Some.read))) _ (ap family c.in-Some.ensures) (c.push_read.ensures u)

pub returns-in-None : goal.returns-in-None
returns-in-None c = λ u.
    let s = standing u c.args.control.now.items in
    let e = term_tree c.args.term.now in
    let family = λ (r : Option ReadView). with_items (leaf_by u c.args.is_test e r (items_of s.yes) (items_of s.no)) s in
    goes_on c.push_choice.result (standing u c.push_choice.new.control.items) (family None) _ (ap family c.in-None.ensures) (c.push_choice.ensures u)

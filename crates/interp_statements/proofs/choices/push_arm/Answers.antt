use Rattle.std.proofs.Common.{◌+◌, [], ◌∷◌, ◌++◌, ap, sym}
use Rattle.c_layout.specs.CheckedTrees.{term_tree}
use Rattle.semantics.specs.SourceMachine.Items as machine
use Rattle.semantics.specs.SourceMachine.ConditionItems.{arm}
use Rattle.interp_stack.specs.StackViews.{with_item, standing}
use Rattle.interp_stack.proofs.Sequels.{items_go_on}
use Rattle.interp_statements.proofs.choices.push_arm.Goals as goal

pub returns-then-used : goal.returns-then-used
returns-then-used c = λ u.
    let s = standing u c.args.control.now.items in
    let e = term_tree c.args.term.now in
    items_go_on c.push_item.result (standing u c.push_item.new.control.items) (with_item (machine.Value e) s) ((arm c.args.used e ∷ []) ++ s.items) (ap (λ used. (arm used e ∷ []) ++ s.items) (sym c.if-used.true)) (c.push_item.ensures u)

pub returns-else-used : goal.returns-else-used
returns-else-used c = λ u.
    let s = standing u c.args.control.now.items in
    let e = term_tree c.args.term.now in
    items_go_on c.push_item-else-used.result (standing u c.push_item-else-used.new.control.items) (with_item (machine.Unused e) s) ((arm c.args.used e ∷ []) ++ s.items) (ap (λ used. (arm used e ∷ []) ++ s.items) (sym c.if-used.false)) (c.push_item-else-used.ensures u)

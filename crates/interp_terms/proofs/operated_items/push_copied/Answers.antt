use Rattle.std.proofs.Common.{[], ◌∷◌, ap, sym}
use Rattle.c_layout.specs.CheckedTrees.{lvalue_tree}
use Rattle.lower_templates.specs.Worklist.TermKinds.{lvalue_at}
use Rattle.semantics.specs.SourceMachine.Items as machine
use Rattle.semantics.specs.SourceMachine.Operations as op
use Rattle.interp_stack.specs.StackViews.{with_items, standing}
use Rattle.interp_stack.proofs.Trees.{type_of_lvalue}
use Rattle.interp_terms.proofs.operated_items.push_copied.Goals as goal

pub returns : goal.returns
returns c = λ u.
    let target = lvalue_tree c.args.target.now in
    rw (c.in_ok-push_item-2.ensures u, c.in_ok-push_item.ensures u, c.in_ok-push_on_lvalue.ensures u)
    (ap (λ t. with_items (machine.Address target ∷ (machine.Address (lvalue_tree c.args.source.now) ∷ (machine.Do (lvalue_at target) (op.Copy t) ∷ []))) (standing u c.args.control.now.items)) (sym (type_of_lvalue c.args.target.now)))

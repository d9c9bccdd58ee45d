use Rattle.std.proofs.Common.{[], ◌∷◌, ap, sym}
use Rattle.c_layout.specs.CheckedTrees.{lvalue_tree}
use Rattle.semantics.specs.SourceMachine.Operations as op
use Rattle.semantics.specs.SourceMachine.Items as machine
use Rattle.interp_stack.specs.StackViews.{with_items, standing}
use Rattle.interp_stack.proofs.Trees.{type_of_lvalue}
use Rattle.interp_stack.proofs.store_items.push_copy.Goals as goal

pub returns : goal.returns
returns c = λ u. rw (c.in_ok-push_item-3.ensures u, c.in_ok-push_item-2.ensures u, c.in_ok-push_item.ensures u) (ap (λ t. with_items (machine.Address (lvalue_tree c.args.source.now) ∷ (machine.Do c.args.at (op.Copy t) ∷ (machine.Drop ∷ []))) (standing u c.args.control.now.items)) (sym (type_of_lvalue c.args.source.now)))

use Rattle.c_layout.specs.CheckedTrees.{term_tree, lvalue_tree}
use Rattle.semantics.specs.SourceMachine.TermItems as spec
use Rattle.interp_stack.specs.StackViews.{standing}
use Rattle.interp_stack.proofs.Stacks.{dropped}
use Rattle.interp_terms.proofs.assigned_items.push_assignment.Goals as goal

pub returns : goal.returns
returns c = λ u. rw (c.in_ok-push_item-2.ensures u, c.in_ok-push_item.ensures u, c.in_ok-push_on_lvalue.ensures u, c.in_ok-push_if_unused.ensures u, c.kind_of_lvalue.ensures) (dropped c.args.used (spec.assignment (lvalue_tree c.args.target.now) (term_tree c.args.value.now)) (standing u c.args.control.now.items))

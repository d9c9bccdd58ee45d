use Rattle.std.proofs.Common.{[], ◌∷◌}
use Rattle.c_layout.specs.CheckedTrees.{term_tree}
use Rattle.semantics.specs.SourceMachine.Items as machine
use Rattle.interp_stack.specs.StackViews.{standing}
use Rattle.interp_stack.proofs.Stacks.{dropped}
use Rattle.interp_terms.proofs.operated_items.push_operand.Goals as goal

pub returns : goal.returns
returns c = λ u. rw (c.in_ok-push_item.ensures u, c.in_ok-push_if_unused.ensures u) (dropped c.args.used (machine.Value (term_tree c.args.operand.now) ∷ []) (standing u c.args.control.now.items))

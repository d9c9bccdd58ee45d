use Rattle.std.proofs.Common.{[], ◌∷◌}
use Rattle.semantics.specs.SourceMachine.Items as machine
use Rattle.interp_stack.specs.ItemViews.{operation_view}
use Rattle.interp_stack.specs.StackViews.{standing}
use Rattle.interp_stack.proofs.Stacks.{dropped}
use Rattle.interp_terms.proofs.operated_items.push_none.Goals as goal

pub returns : goal.returns
returns c = λ u. rw (c.in_ok-push_do.ensures u, c.in_ok-push_if_unused.ensures u) (dropped c.args.used (machine.Do c.args.at (operation_view c.args.operation) ∷ []) (standing u c.args.control.now.items))
